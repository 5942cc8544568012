-- What the calls of the code mean, and what a list of them leaves.
use Rattle.std.specs.Prelude.{ℕ, List, [], ◌∷◌, ◌++◌, map, length, take, drop}
use Rattle.semantics.specs.declared.call.Response.{Response}
use Rattle.semantics.specs.Calls.{CallDef, class, native, load, start, go, fill, Moment}
use Rattle.semantics.specs.Cards.{CardDef, signature, fill_into}
use Rattle.session.specs.declared.call.Call.{Call}
use Rattle.session.specs.declared.call.Call.TheVariants as call

-- a call, where the lent buffer has that room
abbrev pub call_of : ℕ → Call → CallDef
call_of room (call.Class p) = class p
call_of room (call.Native c m as' r) = native (signature c m as'.now r)
call_of room (call.Load t) = load t.now
call_of room (call.Start v m vs) = start v m vs.now
call_of room (call.Go n) = go n
call_of room (call.Fill t) = fill t.now room

-- the buffer after a call; only a fill alters it
abbrev pub buffer_after : CardDef → CallDef → List ℕ → List ℕ
buffer_after k (class p) buf = buf
buffer_after k (native e) buf = buf
buffer_after k (load t) buf = buf
buffer_after k (start v m vs) buf = buf
buffer_after k (go n) buf = buf
buffer_after k (fill t room) buf = fill_into k t buf

-- the calls of a list that are performed: as many as there are places for responses
abbrev pub taken_calls : ℕ → ℕ → List Call → List CallDef
taken_calls room places calls = map (call_of room) (take places calls)

abbrev pub responses_of : {C : Type 0} → List (Moment C) → List Response
responses_of [] = []
responses_of (m ∷ ms) = m.outcome.response ∷ responses_of ms

-- each response in its place; the places behind them stay
abbrev pub responded_in : {C : Type 0} → List Response → List (Moment C) → List Response
responded_in places ms = responses_of ms ++ drop (length ms) places

-- the buffer after each call in turn
abbrev pub buffer_after_all : {C : Type 0} → List (Moment C) → List ℕ → List ℕ
buffer_after_all [] buf = buf
buffer_after_all (m ∷ ms) buf = buffer_after_all ms (buffer_after m.card m.call buf)

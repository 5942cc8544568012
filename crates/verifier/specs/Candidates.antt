-- A lookup that keeps of the nearest row so far its number and its class.
use Rattle.std.specs.Prelude.{ℕ, cond, not, ◌&&◌, List, Some, None, Option, ◌==◌}
use Rattle.semantics.specs.Entries.{EntryDef, Found}
use Rattle.semantics.specs.Tree.{fits}
use Rattle.verifier.specs.declared.lookup.Candidate.{Candidate}

abbrev pub candidate : Found → Candidate
candidate f = record { number = f.number; class = f.entry.class }

-- the one of two whose class is lower on the way up; the first of them where they have one class
abbrev pub nearer : List ℕ → Option Candidate → Candidate → Candidate
nearer ps None b = b
nearer ps (Some a) b = cond (fits ps b.class a.class && not (b.class == a.class)) b a

-- the nearest, after the row e of the number i, for the name m on the class c
abbrev pub considered : List ℕ → ℕ → ℕ → Option Candidate → ℕ → EntryDef → Option Candidate
considered ps c m best i e = cond (e.name == m && fits ps c e.class) (Some (nearer ps best (record { number = i; class = e.class }))) best

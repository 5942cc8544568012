use Rattle.std.proofs.Common.{◌≡◌, rules, tests}
use Rattle.std.specs.Char.{is_ascii_digit}
use Rattle.std.specs.Str.{all_ascii_digits}
use Rattle.std.proofs.lemmas.Iterator.{YieldsList-from_slice}
use Rattle.std.proofs.lemmas.Iterator.Search.{all_from_yields_List}
use Rattle.text.proofs.number.is_numeral.Goals as goal

pub returns-in_default : goal.returns-in_default
returns-in_default c =
    let h : c.all.result ≡ all_ascii_digits c.args.bytes.now = all_from_yields_List is_ascii_digit _ _ _ c.all.ensures.ran (YieldsList-from_slice c.args.bytes.now cc) (λ x b q k. search (rules, tests)) in
    search rules

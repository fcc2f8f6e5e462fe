-- A text has no more items than bytes, and a report no more moments than there are items.
use Rattle.std.proofs.Common.{◌<◌, ◌≤◌, ◌+◌, ℕ, List, [], length, map, ap, ◌∙◌, arith, inl, inr}
use Rattle.std.proofs.lemmas.Bool.{cases_Bool, leb-true}
use Rattle.std.proofs.lemmas.List.{length-append, length-map}
use Rattle.std.specs.Prelude.{nat_le}
use Rattle.ab_sigmod.specs.FileLoads.{Load}
use Rattle.ab_lex.specs.declared.TheConstants.{COMMAND_LIMIT}
use Rattle.ab_lex.specs.declared.scanner.Mode.TheVariants.{Plain}
use Rattle.ab_lex.specs.Commands.{CommandAt, Splits, no_more, one_more, Item, item_of, items_of_rest, ItemsOf}
use Rattle.ab_lex.proofs.Cuts.{first_of_text}
use Rattle.ab_lex.proofs.Unique.{found}
use Rattle.ab_session.specs.ab_states.specs.State.{State}
use Rattle.ab_run.specs.declared.way.Way.{Way}
use Rattle.ab_run.specs.Report.{Report, Reports, none, next, last}

command_shorter : (s r : List ℕ) → CommandAt s r → length r < length s
command_shorter s r h =
    let f = first_of_text Plain [] s r (found h) in
    omega (arith, f.some, ap length f.front, length-append f.bytes r)

splits_few : {s rest : List ℕ} {cs : List (List ℕ)} → Splits s cs rest → length cs + length rest ≤ length s
splits_few (no_more n) = omega arith
splits_few {s = s} {rest = rest} (one_more {r = r} {cs = cs} c e x) = omega (arith, splits_few x, command_shorter s r c)

rest_few : (rest : List ℕ) → length (items_of_rest COMMAND_LIMIT rest) ≤ length rest
rest_few rest =
    elim (cases_Bool (nat_le COMMAND_LIMIT (length rest))) [
      | inl t ↦ rw t (omega (arith, leb-true COMMAND_LIMIT (length rest) t))
      | inr f ↦ rw f (omega arith)
    ]

pub items_few : (text : List ℕ) (is : List Item) → ItemsOf text is → length is ≤ length text
items_few text is h =
    let parts = ap length h.items_are ∙ length-append (map (item_of COMMAND_LIMIT) h.whole) (items_of_rest COMMAND_LIMIT h.rest) in
    omega (arith, parts, length-map h.whole (item_of COMMAND_LIMIT), splits_few h.splits, rest_few h.rest)

pub reports_few : {way : Way} {s : State} {is : List Item} {loads : List Load} {r : Report} → Reports way s is loads r → length r ≤ length is
reports_few none = omega arith
reports_few (next m h k x) = omega (arith, reports_few x)
reports_few (last m h k) = omega arith

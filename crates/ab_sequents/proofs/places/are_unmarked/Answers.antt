use Rattle.std.specs.Option.{option_map}
use Rattle.std.specs.Prelude.{drop}
use Rattle.std.proofs.Common.{◌+◌, get_or, map, Bool, sym, ap, ◌∙◌, arith}
use Rattle.ab_logic.specs.Forms.{sign_of}
use Rattle.ab_logic.specs.Worlds.{read, declarations_of}
use Rattle.ab_theory.specs.Induction.{sign_and}
use Rattle.ab_sequents.specs.Kinds.{signs_by}
use Rattle.ab_sequents.proofs.PartSizes.{next_read, signs_more, signs_end, also, also_more}
use Rattle.ab_sequents.proofs.places.are_unmarked.Goals as goal

pub returns-in_default : goal.returns-in_default
returns-in_default c =
    let w = c.args.world.now in
    let i = c.loop-index.index in
    let t = get_or c.args.parts.now i (record { 0 = 0 }) in
    let next = next_read (read w) c.args.parts.now i (record { 0 = 0 }) (omega arith) in
    sym (ap (also c.loop-index.unmarked) (signs_end c.args.places.now (map (read w) c.args.parts.now) i (read w t) next (declarations_of w) c.args.kind (sym c.part_at.ensures ∙ c.in_default.is)))
    ∙ c.loop-index.invariant

pub returns-in_default-sign_at : goal.returns-in_default-sign_at
returns-in_default-sign_at c =
    let w = c.args.world.now in
    let D = declarations_of w in
    let i = c.loop-index.index in
    let Fs = map (read w) c.args.parts.now in
    let t = get_or c.args.parts.now i (record { 0 = 0 }) in
    let next = next_read (read w) c.args.parts.now i (record { 0 = 0 }) (omega arith) in
    let rest = signs_by c.args.kind D (drop (i + 1) c.args.places.now) (drop (i + 1) Fs) in
    let sign = sym (ap (option_map sign_of) c.in_default-sign_at.is) ∙ c.sign_at.ensures in
    sym (ap (also c.loop-index.unmarked) (signs_more c.args.places.now Fs i (read w t) next D c.args.kind c.in-Some.part (sym c.part_at.ensures ∙ c.in-Some.is) ∙ ap (λ o. sign_and o rest) (sym sign)))
    ∙ c.loop-index.invariant

pub loop-index-preserved : goal.loop-index-preserved
loop-index-preserved c =
    let w = c.args.world.now in
    let D = declarations_of w in
    let i = c.loop-index.index in
    let Fs = map (read w) c.args.parts.now in
    let t = get_or c.args.parts.now i (record { 0 = 0 }) in
    let next = next_read (read w) c.args.parts.now i (record { 0 = 0 }) (omega arith) in
    let rest = signs_by c.args.kind D (drop (i + 1) c.args.places.now) (drop (i + 1) Fs) in
    let sign = sym (ap (option_map sign_of) c.in-Some-sign_at.is) ∙ c.sign_at.ensures in
    ap (λ (b : Bool). also b rest) c.still_unmarked-unmarked.ensures
    ∙ also_more c.loop-index.unmarked (sign_of c.in-Some-sign_at.sign) rest
    ∙ ap (λ o. also c.loop-index.unmarked (sign_and o rest)) sign
    ∙ ap (also c.loop-index.unmarked) (sym (signs_more c.args.places.now Fs i (read w t) next D c.args.kind c.in-Some.part (sym c.part_at.ensures ∙ c.in-Some.is)))
    ∙ c.loop-index.invariant

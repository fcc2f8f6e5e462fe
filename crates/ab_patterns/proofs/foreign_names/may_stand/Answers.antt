use Rattle.std.proofs.Common.{map, sym, ◌∙◌, ap, arith}
use Rattle.ab_term.specs.Abstraction.{among, may_stand}
use Rattle.ab_norm.specs.ab_types.specs.Ids.{type_of}
use Rattle.ab_norm.specs.ab_store.specs.Trees.{head_reading}
use Rattle.ab_patterns.specs.ReadingWalks.{deep}
use Rattle.ab_patterns.proofs.Walked.{stands_inside, stands_outside, nominal_stands}
use Rattle.ab_patterns.proofs.foreign_names.may_stand.Goals as goal

pub returns-then-index-depth : goal.returns-then-index-depth
returns-then-index-depth c = λ types store ok named typed.
    stands_inside (map (head_reading types store) c.args.names.now) c.args.depth c.in-Index.index (omega (arith, c.if-index-depth.true))
    ∙ ap (λ h. may_stand (deep c.args.depth (map (head_reading types store) c.args.names.now)) (head_reading types store h)) (sym c.in-Index.is)

pub returns-else-index-depth : goal.returns-else-index-depth
returns-else-index-depth c = λ types store ok named typed.
    c.is_among.ensures types store ok named tt
    ∙ sym (stands_outside (map (head_reading types store) c.args.names.now) c.args.depth c.in-Index.index (omega (arith, c.if-index-depth.false)))
    ∙ ap (λ h. may_stand (deep c.args.depth (map (head_reading types store) c.args.names.now)) (head_reading types store h)) (sym c.in-Index.is)

pub returns-in-Nominal : goal.returns-in-Nominal
returns-in-Nominal c = λ types store ok named typed.
    c.is_among-in-Nominal.ensures types store ok named typed
    ∙ ap (λ h. among (map (head_reading types store) c.args.names.now) (head_reading types store h)) c.in-Nominal.is
    ∙ sym (nominal_stands (map (head_reading types store) c.args.names.now) c.args.depth (record { number = c.in-Nominal.field-0; type = type_of types c.in-Nominal.field-1 }))
    ∙ ap (λ h. may_stand (deep c.args.depth (map (head_reading types store) c.args.names.now)) (head_reading types store h)) (sym c.in-Nominal.is)

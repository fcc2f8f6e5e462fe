use Rattle.std.specs.Prelude.{not, ◌&&◌}
use Rattle.std.proofs.Common.{◌≡◌, ◌↔◌, Bool, true, false, refl, sym, ap, ◌∙◌}
use Rattle.std.proofs.lemmas.Bool.Decides.{Decides-eqb}
use Rattle.ab_term.specs.Types.{prop, same_type}
use Rattle.ab_term.proofs.Comparisons.{same_type-Decides}
use Rattle.ab_norm.specs.ab_types.specs.Ids.{type_of}
use Rattle.ab_norm.specs.ab_types.specs.declared.ids.TypeId.{TypeId}
use Rattle.ab_norm.specs.ab_types.proofs.Kept.{one_type}
use Rattle.ab_declare.proofs.clause_rows.closes_body.Goals as goal

same_test : (b d : Bool) → (b ≡ true) ↔ (d ≡ true) → b ≡ d
same_test true d h = sym (h.0 refl)
same_test false true h = h.1 refl
same_test false false h = refl

pub returns-else-is_formula : goal.returns-else-is_formula
returns-else-is_formula c = λ types table formulas held.
    let decides = Decides-eqb c.args.ty.0 c.args.formulas.prop.0 in
    let A = type_of types c.args.ty in
    let is_prop = same_type-Decides A prop in
    let same : (c.eq-is_formula.result ≡ true) ↔ (same_type A prop ≡ true) = (
      λ e. is_prop.1 (ap (λ n. type_of types (record { 0 = n })) (decides.0 (sym c.eq-is_formula.ensures ∙ e)) ∙ formulas.prop_is),
      λ e. c.eq-is_formula.ensures ∙ decides.1 (ap (λ (x : TypeId). x.0) (one_type types table c.args.ty c.args.formulas.prop held formulas.prop_held (is_prop.0 e ∙ sym formulas.prop_is))),
    ) in
    c.if-is_formula.false
    ∙ sym (ap (λ b. b && not c.is_under_nabla-under.result) c.if-is_formula.false)
    ∙ ap (λ b. b && not c.is_under_nabla-under.result) (same_test c.eq-is_formula.result (same_type A prop) same)
    ∙ ap (λ b. same_type A prop && not b) (c.is_under_nabla-under.ensures types)

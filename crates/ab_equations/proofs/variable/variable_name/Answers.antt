use Rattle.std.proofs.Common.{◌≡◌, ℕ, ◌+◌, ◌≤◌, ◌⊎◌, inl, inr, List, [], ◌∷◌, ◌++◌, length, map, sym, ap, ◌∙◌, arith, length-append}
use Rattle.std.proofs.lemmas.List.{length-map}
use Rattle.std.proofs.lemmas.Result.{IfOk-weaker}
use Rattle.ab_term.specs.Constants.{names}
use Rattle.ab_norm.specs.ab_types.specs.Entries.{Table, a_kind, a_type, a_constant, constants}
use Rattle.ab_norm.specs.ab_types.proofs.Entries.{length-names}
use Rattle.ab_formulas.specs.Declarations.{constant_names}
use Rattle.ab_formulas.specs.Sequents.{Variable}
use Rattle.ab_formulas.specs.NewNames.{IsNamedFor, IsFreeName}
use Rattle.ab_logic.specs.Worlds.{declarations_of, variable_of}
use Rattle.ab_logic.specs.SequentReadings.{sequent_of}
use Rattle.ab_logic.proofs.Declaring.{constants_are}
use Rattle.ab_formulas.specs.FreeStems.{taken_names, variable_names}
use Rattle.ab_free_names.proofs.Free.{taken_not_free}
use Rattle.ab_equations.proofs.variable.variable_name.Goals as goal

pub first_free-requires-clause-start : goal.first_free-requires-clause-start
first_free-requires-clause-start c = c.first_number-first.ensures.first _ _

few_constants : (t : Table) → length (constants t) ≤ length t
few_constants [] = omega arith
few_constants (a_kind k ∷ t) = omega (arith, few_constants t)
few_constants (a_type A ∷ t) = omega (arith, few_constants t)
few_constants (a_constant k ∷ t) = omega (arith, few_constants t)

pub first_free-requires-clause-room : goal.first_free-requires-clause-room
first_free-requires-clause-room c =
    let w = c.args.world.now in
    let D = declarations_of w in
    let s = sequent_of w c.args.sequent.now in
    let variables : length (variable_names s) ≡ length c.args.sequent.now.variables =
    length-map (map (variable_of w) c.args.sequent.now.variables) (λ (x : Variable). x.name) ∙ length-map c.args.sequent.now.variables (variable_of w) in
    let same : length c.as_slice.result.now ≡ length c.args.sequent.now.variables = ap length c.as_slice.ensures in
    let known : length (constant_names D) ≡ length (constants w.types) =
    length-names _ ∙ ap length (constants_are w 0 w.additions c.requires.order) in
    let few = few_constants w.types in
    let counted = c.len.ensures.len in
    omega (arith, length-append (variable_names s) (constant_names D), variables, same, known, few, counted)

pub returns : goal.returns
returns c =
    let D = declarations_of c.args.world.now in
    let s = sequent_of c.args.world.now c.args.sequent.now in
    let not_free : ¬ IsFreeName D s c.args.hint.now = λ free.
    elim (c.is_free.ensures.taken c.if-is_free.false) [
      | inl taken ↦ taken_not_free D s c.args.hint.now taken free
      | inr nominal ↦ free.no_nominal nominal
    ] in
    IfOk-weaker c.first_free.result _ (IsNamedFor D s c.args.hint.now) (λ name p. inr (not_free, (c.in_ok-stem.stem, p.0, c.in_ok-stem.ensures, p.1, p.2))) c.first_free.ensures

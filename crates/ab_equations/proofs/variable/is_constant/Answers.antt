use Rattle.std.specs.Prelude.{IsTrue, IsNone, IfSome, ◌↔◌}
use Rattle.std.proofs.Common.{◌≡◌, ℕ, zero, suc, ◌<◌, Bool, true, false, Option, Some, None, is_some, List, [], ◌∷◌, length, get_or, Contains, refl, arith, sym, ap, ◌∙◌, subst}
use Rattle.ab_term.proofs.Lists.{Contains-here, Contains-there}
use Rattle.ab_term.specs.Constants.{Constant, names}
use Rattle.ab_norm.specs.ab_types.specs.Entries.{Table, constants}
use Rattle.ab_norm.specs.ab_types.specs.Ids.{HoldsConstant, constant_of}
use Rattle.ab_norm.specs.ab_types.specs.declared.ids.ConstId.{ConstId}
use Rattle.ab_formulas.specs.Declarations.{constant_names}
use Rattle.ab_logic.specs.Worlds.{declarations_of}
use Rattle.ab_logic.proofs.Declaring.{constants_are}
use Rattle.ab_equations.proofs.variable.is_constant.Goals as goal

name_there : (cs : List Constant) (i : ℕ) (d : Constant) → i < length cs → Contains (names cs) (get_or cs i d).name
name_there [] i d l = absurd (omega arith)
name_there (c ∷ cs) zero d l = Contains-here c.name (names cs)
name_there (c ∷ cs) (suc i) d l = Contains-there c.name (names cs) (get_or cs i d).name (name_there cs i d (omega arith))

by_look : (table : Table) (name : List ℕ) (o : Option ConstId) → IfSome o (HoldsConstant table) → IfSome o (λ id. (constant_of table id).name ≡ name)
    → (IsNone o ↔ ¬ Contains (names (constants table)) name) → (b : Bool) → b ≡ is_some o → IsTrue b ↔ Contains (names (constants table)) name
by_look table name None held same absent b e = (λ t. let no : true ≡ false = sym t ∙ e in cc, λ there. absurd (absent.0 refl there))
by_look table name (Some id) held same absent b e = (λ t. subst (Contains (names (constants table))) same (name_there (constants table) id.0 _ held), λ there. e)

pub returns : goal.returns
returns c =
    let w = c.args.world.now in
    let same : constant_names (declarations_of w) ≡ names (constants w.types) = ap names (constants_are w 0 w.additions c.requires) in
    subst (λ ns. IsTrue c.is_some.result ↔ Contains ns c.args.name.now) (sym same)
    (by_look w.types c.args.name.now c.look.result c.look.ensures.held c.look.ensures.name c.look.ensures.absent c.is_some.result c.is_some.ensures)

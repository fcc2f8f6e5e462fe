-- A formula by its outermost constant, as the program has it.
use Rattle.ab_term.specs.Types.{Ty}
use Rattle.ab_term.specs.Terms.{Read}
use Rattle.ab_formulas.specs.Marks as marks
use Rattle.ab_formulas.specs.Marks.{Sign, star_of, at_of, plus_of, hash_of}
use Rattle.ab_logic.specs.Worlds.{read, Holds}
use Rattle.ab_store.specs.declared.node.TermId.{TermId}
use Rattle.ab_store.specs.ab_types.specs.declared.ids.TypeId.{TypeId}
use Rattle.ab_logic.specs.declared.world.World.{World}
use Rattle.ab_logic.specs.declared.form.Form.{Form as Kept}
use Rattle.ab_logic.specs.declared.form.Form.TheVariants.{True, False, And, Or, Arrow, Equal, Forall, Exists, Nabla, Marked, Other}
use Rattle.ab_logic.specs.declared.marks.Sign.{Sign as KeptSign}
use Rattle.ab_logic.specs.declared.marks.Sign.TheVariants.{Plain, Star, At, Plus, Hash}
use Rattle.ab_store.specs.ab_types.specs.Ids.{type_of, HoldsType}
pub use Rattle.ab_formulas.specs.Forms.{Form, truth, falsity, both, either, implies, equal, for_all, exists, nabla, marked, other, form_alone, form_with, form_between, form_given, form_headed, form_of, truth_in, falsity_in, both_in, either_in, implies_in, equal_in, for_all_in, exists_in, nabla_in, as_truth, as_falsity, as_both, as_either, as_implies, as_equal, as_for_all, as_exists, as_nabla}

-- the mark that the program's stands for
abbrev pub sign_of : KeptSign → Sign
sign_of Plain = marks.plain
sign_of (Star i) = star_of i
sign_of (At i) = at_of i
sign_of (Plus i) = plus_of i
sign_of (Hash i) = hash_of i

-- the same of the program's forms
abbrev pub form_read : World → Kept → Form
form_read w True = truth
form_read w False = falsity
form_read w (And a b) = both (read w a) (read w b)
form_read w (Or a b) = either (read w a) (read w b)
form_read w (Arrow a b) = implies (read w a) (read w b)
form_read w (Equal A a b) = equal (type_of w.types A) (read w a) (read w b)
form_read w (Forall A a) = for_all (type_of w.types A) (read w a)
form_read w (Exists A a) = exists (type_of w.types A) (read w a)
form_read w (Nabla A a) = nabla (type_of w.types A) (read w a)
form_read w (Marked m a) = marked (sign_of m) (read w a)
form_read w Other = other

-- what a form names is there
abbrev pub HoldsForm : World → Kept → Type 0
HoldsForm w True = Unit {0}
HoldsForm w False = Unit {0}
HoldsForm w (And a b) = Holds w a × Holds w b
HoldsForm w (Or a b) = Holds w a × Holds w b
HoldsForm w (Arrow a b) = Holds w a × Holds w b
HoldsForm w (Equal A a b) = Holds w a × Holds w b
HoldsForm w (Forall A a) = Holds w a
HoldsForm w (Exists A a) = Holds w a
HoldsForm w (Nabla A a) = Holds w a
HoldsForm w (Marked m a) = Holds w a
HoldsForm w Other = Unit {0}

abbrev pub parts_read : World → TermId × TermId → Read × Read
parts_read w p = (read w p.0, read w p.1)

abbrev pub HoldsParts : World → TermId × TermId → Type 0
HoldsParts w p = Holds w p.0 × Holds w p.1

abbrev pub binder_read : World → TypeId × TermId → Ty × Read
binder_read w p = (type_of w.types p.0, read w p.1)

abbrev pub HoldsBinder : World → TypeId × TermId → Type 0
HoldsBinder w p = Holds w p.1

-- the types that a form names are the table's
abbrev pub FormIsTyped : World → Kept → Type 0
FormIsTyped w (Equal A a b) = HoldsType w.types A
FormIsTyped w (Forall A a) = HoldsType w.types A
FormIsTyped w (Exists A a) = HoldsType w.types A
FormIsTyped w (Nabla A a) = HoldsType w.types A
FormIsTyped w _ = Unit {0}

abbrev pub BinderIsTyped : World → TypeId × TermId → Type 0
BinderIsTyped w p = HoldsType w.types p.0

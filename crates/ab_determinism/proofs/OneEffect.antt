-- What a command does is one thing, also where it reads files and where it takes back.
use Rattle.std.proofs.Common.{◌≡◌, ◌⊎◌, inl, inr, ℕ, List, [], ◌++◌, true, false, Some, None, refl, sym, ◌∙◌, ap, subst}
use Rattle.ab_grammar.specs.CommandTrees.{Command, specification, back, undo, reset}
use Rattle.ab_sigmod.specs.FileLoads.{Load}
use Rattle.ab_sigmod.specs.FileOrder as file
use Rattle.ab_sigmod.specs.FileOrder.{Fault, IsSpecification, IsRefused}
use Rattle.ab_sigmod.proofs.OneWay.{read_or_refused, one_reading, one_fault}
use Rattle.ab_command.proofs.Sayings.{says_one, says_or_fails}
use Rattle.ab_states.specs.ab_specification.specs.ab_declare.specs.DeclarationCommands.{Declares, Declines, new_kinds, new_constants, new_predicates, kind_taken, constant_taken, type_unknown, type_unfit, defines_nothing, theorem_taken, states_nothing, no_theorem}
use Rattle.ab_states.specs.ab_specification.specs.ab_declare.specs.declared.refusal.Refusal.{Refusal}
use Rattle.ab_states.specs.ab_specification.specs.ab_declare.specs.declared.refusal.Refusal.TheVariants.{NothingToUndo}
use Rattle.ab_formulas.specs.Declarations.{Declarations}
use Rattle.ab_states.specs.State.{State, Entry, plain, with_files, empty, is_open, is_specified}
use Rattle.ab_states.specs.Reply.{Reply, accepted, refused, files_unread_for}
use Rattle.ab_states.specs.ForwardEffects.{Commands, GoesForward, unread, declined, declared, specified, item_declined, specified_twice, stated, showed, ended, switched, given_up, denied, led, proved}
use Rattle.ab_states.specs.StateEffects.{IsBeforeLast, AsksFor, HasEffect, forward, by_files, unread_files, took_back, nothing_kept, undid, began, emptied}
use Rattle.ab_states.proofs.Replaying.{some_kept}
use Rattle.ab_determinism.specs.Sound.{AreSound}
use Rattle.ab_determinism.proofs.Effects.{one_forward}
use Rattle.ab_determinism.proofs.Taking.{one_before}

-- COMMANDS THAT TAKE BACK don't go forward, and one that asks for files doesn't without them

abbrev TakesBack : Command → Type 0
TakesBack back = Unit {0}
TakesBack undo = Unit {0}
TakesBack reset = Unit {0}
TakesBack c = ⊥

abbrev IsSpecial : Command → Type 0
IsSpecial (specification x) = Unit {0}
IsSpecial c = TakesBack c

special : (c : Command) → TakesBack c → IsSpecial c
special back t = tt
special undo t = tt
special reset t = tt
special c t = absurd t

not_declined : {D : Declarations} {c : Command} {r : Refusal} → Declines D c r → IsSpecial c → ⊥
not_declined (kind_taken e) t = t
not_declined (constant_taken e) t = t
not_declined (type_unknown e f) t = t
not_declined (type_unfit e f n) t = t
not_declined (defines_nothing d) t = t
not_declined (theorem_taken e) t = t
not_declined (states_nothing f e n) t = t
not_declined (no_theorem e) t = t

not_declared : {D more : Declarations} {c : Command} → Declares D c more → IsSpecial c → ⊥
not_declared (new_kinds e) t = t
not_declared (new_constants e f d) t = t
not_declared (new_predicates d) t = t

-- the entry is that of a specification, and where it has no files one is kept
record Specifies (s : State) (e : Entry) : Type 0 where
  name : List ℕ
  says : Commands s e.bytes (specification name)
  kept : e.specification ≡ None → is_specified s ≡ true

some_file : {A : Type 0} (files : List file.Read) → Some files ≡ None → A
some_file files e = cc

module _ (s : State) (c : Command) (is : IsSpecial c) where
  other : {bytes : List ℕ} {d : Command} → Commands s bytes c → Commands s bytes d → (IsSpecial d → ⊥) → ⊥
  other {bytes = bytes} k j not = not (subst IsSpecial (says_one bytes (is_open s) _ _ k j) is)

  only_specifies : {e : Entry} {r : Reply} {t : State} → GoesForward s e r t → Commands s e.bytes c → Specifies s e
  only_specifies (unread {bytes = bytes} d f) k = absurd (says_or_fails bytes (is_open s) c d k f)
  only_specifies (declined d v j x) k = absurd (other k j (not_declined x))
  only_specifies (declared d more j x) k = absurd (other k j (not_declared x))
  only_specifies (specified x files more j n d) k = record { name = x; says = j; kept = some_file files }
  only_specifies (item_declined x files v j n d) k = record { name = x; says = j; kept = some_file files }
  only_specifies (specified_twice x j n) k = record { name = x; says = j; kept = λ e. n }
  only_specifies (stated x e F j n d) k = absurd (other k j (λ t. t))
  only_specifies (showed x F j e) k = absurd (other k j (λ t. t))
  only_specifies (ended j) k = absurd (other k j (λ t. t))
  only_specifies (switched on j) k = absurd (other k j (λ t. t))
  only_specifies (given_up j) k = absurd (other k j (λ t. t))
  only_specifies (denied l d a q gs v f x) k = absurd (other k f.says (λ t. t))
  only_specifies (led l d a q gs ps h hs f m e) k = absurd (other k f.says (λ t. t))
  only_specifies (proved l d a q gs ps f m e) k = absurd (other k f.says (λ t. t))

-- a command that takes back is no specification
no_specification : (c : Command) (x : List ℕ) → TakesBack c → c ≡ specification x → ⊥
no_specification c x t e = subst TakesBack e t

no_forward : (s : State) (c : Command) → TakesBack c → {e : Entry} {r : Reply} {t : State} → GoesForward s e r t → Commands s e.bytes c → ⊥
no_forward s c takes {e = e} h k =
    let x = only_specifies s c (special c takes) h k in
    no_specification c x.name takes (says_one e.bytes (is_open s) c (specification x.name) k x.says)

no_plain : (s : State) (bytes x : List ℕ) {r : Reply} {t : State} → GoesForward s (plain bytes) r t → AsksFor s bytes x → ⊥
no_plain s bytes x h a = let both : true ≡ false = sym ((only_specifies s (specification x) tt h a.says).kept refl) ∙ a.first in cc

open_or_not : {t u : State} → t ≡ u → is_open t ≡ true → is_open u ≡ false → ⊥
open_or_not same a b = let bad : true ≡ false = sym a ∙ ap is_open same ∙ b in cc

-- ONE EFFECT, by what the command is: it goes forward, by files or without any, or it takes back
module _ (s : State) (sound : AreSound s.declarations) (bytes : List ℕ) where
  abbrev ByFiles : List ℕ → List Load → Reply → State → Type 0
  ByFiles x loads r t =
      ((files : List file.Read) × IsSpecification x loads files × GoesForward s (with_files files bytes) r t)
      ⊎ ((fault : Fault) × IsRefused x loads fault × (r ≡ refused (files_unread_for fault)) × (t ≡ s))

  abbrev Taking : Command → Reply → State → Type 0
  Taking back r t = (IsBeforeLast s t × (r ≡ accepted)) ⊎ ((s.kept ≡ []) × (r ≡ refused NothingToUndo) × (t ≡ s))
  Taking undo r t = (IsBeforeLast s t × (is_open t ≡ true) × (r ≡ accepted)) ⊎ ((b : State) × IsBeforeLast s b × (is_open b ≡ false) × (r ≡ refused NothingToUndo) × (t ≡ s))
  Taking reset r t = (r ≡ accepted) × (t ≡ empty)
  Taking c r t = ⊥

  abbrev TakingBack : List Load → Reply → State → Type 0
  TakingBack loads r t = (c : Command) × TakesBack c × Commands s bytes c × Taking c r t × (loads ≡ [])

  abbrev Went : List Load → Reply → State → Type 0
  Went loads r t = (GoesForward s (plain bytes) r t × (loads ≡ [])) ⊎ (((x : List ℕ) × AsksFor s bytes x × ByFiles x loads r t) ⊎ TakingBack loads r t)

  went : {loads : List Load} {r : Reply} {t : State} → HasEffect s bytes loads r t → Went loads r t
  went (forward h) = inl (h, refl)
  went (by_files x files a is h) = inr (inl (x, a, inl (files, is, h)))
  went (unread_files x fault a is) = inr (inl (x, a, inr (fault, is, refl, refl)))
  went (took_back k b) = inr (inr (back, tt, k, inl (b, refl), refl))
  went (nothing_kept k e) = inr (inr (back, tt, k, inr (e, refl, refl), refl))
  went (undid k b o) = inr (inr (undo, tt, k, inl (b, o, refl), refl))
  went (began k b o) = inr (inr (undo, tt, k, inr (_, b, o, refl, refl), refl))
  went (emptied k) = inr (inr (reset, tt, k, (refl, refl), refl))

  abbrev Same : List Load → Reply → State → List Load → Reply → State → Type 0
  Same loads r t others q u = (r ≡ q) × (t ≡ u) × (loads ≡ others)

  one_taking : (c : Command) (r q : Reply) (t u : State) → Taking c r t → Taking c q u → (r ≡ q) × (t ≡ u)
  one_taking back r q t u (inl (a, e)) (inl (b, f)) = (e ∙ sym f, one_before a b)
  one_taking back r q t u (inl (a, e)) (inr (none, f, g)) = absurd (some_kept a none)
  one_taking back r q t u (inr (none, e, h)) (inl (b, f)) = absurd (some_kept b none)
  one_taking back r q t u (inr (none, e, h)) (inr (also, f, g)) = (e ∙ sym f, h ∙ sym g)
  one_taking undo r q t u (inl (a, o, e)) (inl (b, p, f)) = (e ∙ sym f, one_before a b)
  one_taking undo r q t u (inl (a, o, e)) (inr (v, b, p, f, g)) = absurd (open_or_not (one_before a b) o p)
  one_taking undo r q t u (inr (v, a, o, e, h)) (inl (b, p, f)) = absurd (open_or_not (one_before b a) p o)
  one_taking undo r q t u (inr (v, a, o, e, h)) (inr (w, b, p, f, g)) = (e ∙ sym f, h ∙ sym g)
  one_taking reset r q t u a b = (a.0 ∙ sym b.0, a.1 ∙ sym b.1)
  one_taking c r q t u a b = absurd a

  module _ {loads others : List Load} (rest more : List Load) (alike : loads ++ rest ≡ others ++ more) {r q : Reply} {t u : State} where
    one_by_files : (x : List ℕ) → ByFiles x loads r t → ByFiles x others q u → Same loads r t others q u
    one_by_files x (inl (fs, a, h)) (inl (gs, b, k)) =
        let read = one_reading x loads others rest more fs gs alike a b in
        let one = one_forward s sound (subst (λ f. GoesForward s (with_files f bytes) r t) read.1 h) k in
        (one.0, one.1, read.0)
    one_by_files x (inl (fs, a, h)) (inr (f, b, e, g)) = absurd (read_or_refused x loads others rest more fs f alike a b)
    one_by_files x (inr (f, a, e, g)) (inl (fs, b, k)) = absurd (read_or_refused x others loads more rest fs f (sym alike) b a)
    one_by_files x (inr (f, a, e, h)) (inr (g, b, k, j)) =
        let fault = one_fault x loads others rest more f g alike a b in
        (e ∙ ap (λ z. refused (files_unread_for z)) fault.1 ∙ sym k, h ∙ sym j, fault.0)

    one_went : Went loads r t → Went others q u → Same loads r t others q u
    one_went (inl (h, e)) (inl (k, f)) = let one = one_forward s sound h k in (one.0, one.1, e ∙ sym f)
    one_went (inl (h, e)) (inr (inl (x, a, b))) = absurd (no_plain s bytes x h a)
    one_went (inl (h, e)) (inr (inr (c, takes, k, b, f))) = absurd (no_forward s c takes h k)
    one_went (inr (inl (x, a, b))) (inl (k, f)) = absurd (no_plain s bytes x k a)
    one_went (inr (inl (x, a, b))) (inr (inl (y, c, d))) =
        let names : specification x ≡ specification y = says_one bytes (is_open s) (specification x) (specification y) a.says c.says in
        let same : x ≡ y = cc in
        one_by_files y (subst (λ z. ByFiles z loads r t) same b) d
    one_went (inr (inl (x, a, b))) (inr (inr (c, takes, k, d, f))) = absurd (no_specification c x takes (says_one bytes (is_open s) c (specification x) k a.says))
    one_went (inr (inr (c, takes, k, b, e))) (inl (h, f)) = absurd (no_forward s c takes h k)
    one_went (inr (inr (c, takes, k, b, e))) (inr (inl (x, a, d))) = absurd (no_specification c x takes (says_one bytes (is_open s) c (specification x) k a.says))
    one_went (inr (inr (c, takes, k, b, e))) (inr (inr (d, also, j, a, f))) =
        let one = one_taking d r q t u (subst (λ z. Taking z r t) (says_one bytes (is_open s) c d k j) b) a in
        (one.0, one.1, e ∙ sym f)

-- where loads begin alike there is one reply, one state behind it, and one front of the loads
pub one_effect : (s : State) → AreSound s.declarations → (bytes : List ℕ) {loads others : List Load} (rest more : List Load) {r q : Reply} {t u : State} → loads ++ rest ≡ others ++ more
    → HasEffect s bytes loads r t → HasEffect s bytes others q u → (r ≡ q) × (t ≡ u) × (loads ≡ others)
one_effect s sound bytes rest more alike a b = one_went s sound bytes rest more alike (went s sound bytes a) (went s sound bytes b)

-- Formulas are opened, and conclusions taken apart, in one way.
use Rattle.std.proofs.Common.{◌≡◌, ◌⊎◌, inl, inr, ℕ, List, [], ◌∷◌, map, refl, sym, ◌∙◌, ap, subst}
use Rattle.ab_term.specs.Types.{Ty}
use Rattle.ab_term.specs.Terms.{Nominal, Read}
use Rattle.ab_term.specs.Substitution.{instance}
use Rattle.ab_formulas.specs.Declarations.{Declarations}
use Rattle.ab_formulas.specs.Forms as form
use Rattle.ab_formulas.specs.Forms.{Form, form_of}
use Rattle.ab_formulas.specs.NewNames.{Label, auto, given, Names, NoName, IsLeast}
use Rattle.ab_formulas.specs.Sequents.{Sequent, assuming}
use Rattle.ab_theory.specs.Rules.{name_term}
use Rattle.ab_theory.proofs.OneAnswer.{least_once}
use Rattle.ab_formulas.specs.NamedGoals.{name_in, with_names, named}
use Rattle.ab_effects.specs.Openings.{IsWhole, MayTake, Taken, Opened, Nameless}
use Rattle.ab_determinism.proofs.Outlines.{also_truth, also_both, also_exists, also_nabla, also_whole}
use Rattle.ab_determinism.proofs.Namings.{nameless_also, taken_also}
use Rattle.ab_determinism.proofs.Alike.{Alike, standing, M, same_formula, same_rest, alike_nothing, alike_parts, alike_variable, alike_constant, alike_hypothesis}

pub named_or_not : (l : Label) (s : Sequent) (x : List ℕ) (t : Sequent) → Names l s x t → NoName l s → ⊥
named_or_not auto s x t a none = none a.0 a.1.has
named_or_not (given z) s x t a used = a.0 used

-- HOW THE FIRST FORMULA IS OPENED, by its form

module _ (D : Declarations) (F : Read) (Fs : List Read) (l : Label) (s : Sequent) where
  abbrev OpensBy : Label → Sequent → Form → Type 0
  OpensBy m v form.truth = Opened D Fs l s m v
  OpensBy m v (form.both A B) = Opened D (A ∷ B ∷ Fs) l s m v
  OpensBy m v (form.exists A t) = (w : Sequent) × (G : Read) × Taken D s F A t G w × Opened D (G ∷ Fs) l w m v
  OpensBy m v (form.nabla A t) = (n : ℕ) × IsLeast (MayTake s F Fs A) n × Opened D (instance t (name_term (record { number = n; type = A })) ∷ Fs) l s m v
  OpensBy m v _ = (x : List ℕ) × (w : Sequent) × Names l s x w × Opened D Fs auto (assuming x F w) m v

  whole_opens : (m : Label) (v : Sequent) (g : Form) → IsWhole g → (x : List ℕ) (w : Sequent) → Names l s x w → Opened D Fs auto (assuming x F w) m v → OpensBy m v g
  whole_opens m v form.truth h x w n d = absurd h
  whole_opens m v (form.both A B) h x w n d = absurd h
  whole_opens m v (form.exists A t) h x w n d = absurd h
  whole_opens m v (form.nabla A t) h x w n d = absurd h
  whole_opens m v _ h x w n d = (x, w, n, d)

  opens_whole : (m : Label) (v : Sequent) (g : Form) → IsWhole g → OpensBy m v g → (x : List ℕ) × (w : Sequent) × Names l s x w × Opened D Fs auto (assuming x F w) m v
  opens_whole m v form.truth h d = absurd h
  opens_whole m v (form.both A B) h d = absurd h
  opens_whole m v (form.exists A t) h d = absurd h
  opens_whole m v (form.nabla A t) h d = absurd h
  opens_whole m v _ h d = d

  abbrev FailsBy : Form → Type 0
  FailsBy form.truth = Nameless D Fs l s
  FailsBy (form.both A B) = Nameless D (A ∷ B ∷ Fs) l s
  FailsBy (form.exists A t) = (w : Sequent) × (G : Read) × Taken D s F A t G w × Nameless D (G ∷ Fs) l w
  FailsBy (form.nabla A t) = (n : ℕ) × IsLeast (MayTake s F Fs A) n × Nameless D (instance t (name_term (record { number = n; type = A })) ∷ Fs) l s
  FailsBy _ = ((x : List ℕ) × (w : Sequent) × Names l s x w × Nameless D Fs auto (assuming x F w)) ⊎ NoName l s

  abbrev FailsWhole : Type 0
  FailsWhole = ((x : List ℕ) × (w : Sequent) × Names l s x w × Nameless D Fs auto (assuming x F w)) ⊎ NoName l s

  whole_fails : (g : Form) → IsWhole g → FailsWhole → FailsBy g
  whole_fails form.truth h d = absurd h
  whole_fails (form.both A B) h d = absurd h
  whole_fails (form.exists A t) h d = absurd h
  whole_fails (form.nabla A t) h d = absurd h
  whole_fails _ h d = d

  fails_whole : (g : Form) → IsWhole g → FailsBy g → FailsWhole
  fails_whole form.truth h d = absurd h
  fails_whole (form.both A B) h d = absurd h
  fails_whole (form.exists A t) h d = absurd h
  fails_whole (form.nabla A t) h d = absurd h
  fails_whole _ h d = d

opens_by : {D : Declarations} {F : Read} {Fs : List Read} {l m : Label} {s v : Sequent} → Opened D (F ∷ Fs) l s m v → OpensBy D F Fs l s m v (form_of F)
opens_by {D = D} {F = F} {Fs = Fs} {l = l} {m = m} {s = s} {v = v} (Opened.nothing e d) = subst (OpensBy D F Fs l s m v) (sym e) d
opens_by {D = D} {F = F} {Fs = Fs} {l = l} {m = m} {s = s} {v = v} (Opened.parts e d) = subst (OpensBy D F Fs l s m v) (sym e) d
opens_by {D = D} {F = F} {Fs = Fs} {l = l} {m = m} {s = s} {v = v} (Opened.variable {G = G} {v = w} e k d) = subst (OpensBy D F Fs l s m v) (sym e) (w, G, k, d)
opens_by {D = D} {F = F} {Fs = Fs} {l = l} {m = m} {s = s} {v = v} (Opened.constant {n = n} e least d) = subst (OpensBy D F Fs l s m v) (sym e) (n, least, d)
opens_by {D = D} {F = F} {Fs = Fs} {l = l} {m = m} {s = s} {v = v} (Opened.hypothesis x w h n d) = whole_opens D F Fs l s m v (form_of F) h x w n d

fails_by : {D : Declarations} {F : Read} {Fs : List Read} {l : Label} {s : Sequent} → Nameless D (F ∷ Fs) l s → FailsBy D F Fs l s (form_of F)
fails_by {D = D} {F = F} {Fs = Fs} {l = l} {s = s} (Nameless.nothing e d) = subst (FailsBy D F Fs l s) (sym e) d
fails_by {D = D} {F = F} {Fs = Fs} {l = l} {s = s} (Nameless.parts e d) = subst (FailsBy D F Fs l s) (sym e) d
fails_by {D = D} {F = F} {Fs = Fs} {l = l} {s = s} (Nameless.variable {G = G} {v = w} e k d) = subst (FailsBy D F Fs l s) (sym e) (w, G, k, d)
fails_by {D = D} {F = F} {Fs = Fs} {l = l} {s = s} (Nameless.constant {n = n} e least d) = subst (FailsBy D F Fs l s) (sym e) (n, least, d)
fails_by {D = D} {F = F} {Fs = Fs} {l = l} {s = s} (Nameless.hypothesis x w h n d) = whole_fails D F Fs l s (form_of F) h (inl (x, w, n, d))
fails_by {D = D} {F = F} {Fs = Fs} {l = l} {s = s} (Nameless.unnamed h none) = whole_fails D F Fs l s (form_of F) h (inr none)

-- the least constant that may be taken is one
same_constant : (s u : Sequent) → named s ≡ named u → (F G : Read) (Fs Gs : List Read) (A : Ty) (n k : ℕ) → with_names s.variables F ≡ with_names u.variables G → map (with_names s.variables) Fs ≡ map (with_names u.variables) Gs
    → IsLeast (MayTake s F Fs A) n → IsLeast (MayTake u G Gs A) k → k ≡ n
same_constant s u same F G Fs Gs A n k one more a b =
    least_once (MayTake u G Gs A) k n b (record {
      has = taken_also s u same F G Fs Gs A n one more a.has;
      first = λ j l m. a.first j l (taken_also u s (sym same) G F Gs Fs A j (sym one) (sym more) m);
    })

none_opened : {D : Declarations} {l m : Label} {s v : Sequent} → Opened D [] l s m v → (l ≡ m) × (s ≡ v)
none_opened Opened.none = (refl, refl)

none_fails : {D : Declarations} {l : Label} {s : Sequent} → Nameless D [] l s → ⊥
none_fails d = elim d [ ]

-- OPENING LEAVES ONE LABEL, and one goal with names for numbers
pub opened_once : {D : Declarations} {Fs : List Read} {l m : Label} {s v : Sequent} → Opened D Fs l s m v → (N : List Nominal) (u : Sequent) (Gs : List Read) → Alike D N s Fs u Gs
    → (k : Label) (w : Sequent) → Opened D Gs l u k w → (m ≡ k) × (named v ≡ named w)
opened_once Opened.none N u [] alike k w other = let empty = none_opened other in (empty.0, alike.goals ∙ ap named empty.1)
opened_once Opened.none N u (G ∷ Gs) alike k w other = let bad = alike.formulas in absurd (cc)
opened_once (Opened.nothing e d) N u [] alike k w other = let bad = alike.formulas in absurd (cc)
opened_once {D = D} {l = l} {s = s} (Opened.nothing {F = F} {Fs = Fs} e d) N u (G ∷ Gs) alike k w other =
    let at = also_truth (name_in s.variables) (name_in u.variables) F G (same_formula D N s u F G Fs Gs alike) e in
    opened_once d N u Gs (alike_nothing D N s u F G Fs Gs alike) k w (subst (OpensBy D G Gs l u k w) at (opens_by other))
opened_once (Opened.parts e d) N u [] alike k w other = let bad = alike.formulas in absurd (cc)
opened_once {D = D} {l = l} {s = s} (Opened.parts {F = F} {A = A} {B = B} {Fs = Fs} e d) N u (G ∷ Gs) alike k w other =
    let at = also_both (name_in s.variables) (name_in u.variables) F G (same_formula D N s u F G Fs Gs alike) A B e in
    opened_once d N u (at.0 ∷ at.1 ∷ Gs) (alike_parts D N s u F G Fs Gs alike A B at.0 at.1 e at.2 at.3 at.4) k w (subst (OpensBy D G Gs l u k w) at.2 (opens_by other))
opened_once (Opened.variable e t d) N u [] alike k w other = let bad = alike.formulas in absurd (cc)
opened_once {D = D} {l = l} {s = s} (Opened.variable {F = F} {t = t} {G = X} {A = A} {Fs = Fs} {v = v} e taken d) N u (G ∷ Gs) alike k w other =
    let at = also_exists (name_in s.variables) (name_in u.variables) F G (same_formula D N s u F G Fs Gs alike) A t e in
    let there = subst (OpensBy D G Gs l u k w) at.1 (opens_by other) in
    opened_once d N there.0 (there.1 ∷ Gs) (alike_variable D N s u F G Fs Gs alike A t at.0 X there.1 v there.0 e at.1 at.2 taken there.2) k w there.3
opened_once (Opened.constant e least d) N u [] alike k w other = let bad = alike.formulas in absurd (cc)
opened_once {D = D} {l = l} {s = s} (Opened.constant {F = F} {t = t} {A = A} {n = n} {Fs = Fs} e least d) N u (G ∷ Gs) alike k w other =
    let same = same_formula D N s u F G Fs Gs alike in
    let at = also_nabla (name_in s.variables) (name_in u.variables) F G same A t e in
    let there = subst (OpensBy D G Gs l u k w) at.1 (opens_by other) in
    let number = same_constant s u alike.goals F G Fs Gs A n there.0 same (same_rest D N s u F G Fs Gs alike) least there.1 in
    opened_once d (M D (standing s (F ∷ Fs)) A n) u (instance at.0 (name_term (record { number = n; type = A })) ∷ Gs) (alike_constant D N s u F G Fs Gs alike A t at.0 n e at.1 at.2 least.has) k w
    (subst (λ j. Opened D (instance at.0 (name_term (record { number = j; type = A })) ∷ Gs) l u k w) number there.2)
opened_once (Opened.hypothesis x v h n d) N u [] alike k w other = let bad = alike.formulas in absurd (cc)
opened_once {D = D} {l = l} {s = s} (Opened.hypothesis {F = F} {Fs = Fs} x v h n d) N u (G ∷ Gs) alike k w other =
    let at = also_whole (name_in s.variables) (name_in u.variables) F G (same_formula D N s u F G Fs Gs alike) h in
    let there = opens_whole D G Gs l u k w (form_of G) at (opens_by other) in
    opened_once d N (assuming there.0 G there.1) Gs (alike_hypothesis D N s u F G Fs Gs alike l x there.0 v there.1 n there.2) k w there.3

-- what can be opened in one goal can't fail to be in the other
pub opened_or_not : {D : Declarations} {Fs : List Read} {l m : Label} {s v : Sequent} → Opened D Fs l s m v → (N : List Nominal) (u : Sequent) (Gs : List Read) → Alike D N s Fs u Gs → Nameless D Gs l u → ⊥
opened_or_not Opened.none N u [] alike other = none_fails other
opened_or_not Opened.none N u (G ∷ Gs) alike other = let bad = alike.formulas in cc
opened_or_not (Opened.nothing e d) N u [] alike other = let bad = alike.formulas in cc
opened_or_not {D = D} {l = l} {s = s} (Opened.nothing {F = F} {Fs = Fs} e d) N u (G ∷ Gs) alike other =
    let at = also_truth (name_in s.variables) (name_in u.variables) F G (same_formula D N s u F G Fs Gs alike) e in
    opened_or_not d N u Gs (alike_nothing D N s u F G Fs Gs alike) (subst (FailsBy D G Gs l u) at (fails_by other))
opened_or_not (Opened.parts e d) N u [] alike other = let bad = alike.formulas in cc
opened_or_not {D = D} {l = l} {s = s} (Opened.parts {F = F} {A = A} {B = B} {Fs = Fs} e d) N u (G ∷ Gs) alike other =
    let at = also_both (name_in s.variables) (name_in u.variables) F G (same_formula D N s u F G Fs Gs alike) A B e in
    opened_or_not d N u (at.0 ∷ at.1 ∷ Gs) (alike_parts D N s u F G Fs Gs alike A B at.0 at.1 e at.2 at.3 at.4) (subst (FailsBy D G Gs l u) at.2 (fails_by other))
opened_or_not (Opened.variable e t d) N u [] alike other = let bad = alike.formulas in cc
opened_or_not {D = D} {l = l} {s = s} (Opened.variable {F = F} {t = t} {G = X} {A = A} {Fs = Fs} {v = v} e taken d) N u (G ∷ Gs) alike other =
    let at = also_exists (name_in s.variables) (name_in u.variables) F G (same_formula D N s u F G Fs Gs alike) A t e in
    let there = subst (FailsBy D G Gs l u) at.1 (fails_by other) in
    opened_or_not d N there.0 (there.1 ∷ Gs) (alike_variable D N s u F G Fs Gs alike A t at.0 X there.1 v there.0 e at.1 at.2 taken there.2) there.3
opened_or_not (Opened.constant e least d) N u [] alike other = let bad = alike.formulas in cc
opened_or_not {D = D} {l = l} {s = s} (Opened.constant {F = F} {t = t} {A = A} {n = n} {Fs = Fs} e least d) N u (G ∷ Gs) alike other =
    let same = same_formula D N s u F G Fs Gs alike in
    let at = also_nabla (name_in s.variables) (name_in u.variables) F G same A t e in
    let there = subst (FailsBy D G Gs l u) at.1 (fails_by other) in
    let number = same_constant s u alike.goals F G Fs Gs A n there.0 same (same_rest D N s u F G Fs Gs alike) least there.1 in
    opened_or_not d (M D (standing s (F ∷ Fs)) A n) u (instance at.0 (name_term (record { number = n; type = A })) ∷ Gs) (alike_constant D N s u F G Fs Gs alike A t at.0 n e at.1 at.2 least.has)
    (subst (λ j. Nameless D (instance at.0 (name_term (record { number = j; type = A })) ∷ Gs) l u) number there.2)
opened_or_not (Opened.hypothesis x v h n d) N u [] alike other = let bad = alike.formulas in cc
opened_or_not {D = D} {l = l} {s = s} (Opened.hypothesis {F = F} {Fs = Fs} x v h n d) N u (G ∷ Gs) alike other =
    let at = also_whole (name_in s.variables) (name_in u.variables) F G (same_formula D N s u F G Fs Gs alike) h in
    elim (fails_whole D G Gs l u (form_of G) at (fails_by other)) [
      | inl there ↦ opened_or_not d N (assuming there.0 G there.1) Gs (alike_hypothesis D N s u F G Fs Gs alike l x there.0 v there.1 n there.2) there.3
      | inr none ↦ named_or_not l s x v n (nameless_also u s (sym alike.goals) l none)
    ]

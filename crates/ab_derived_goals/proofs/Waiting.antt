-- FORMULAS WAIT TO BE OPENED: a goal has them as hypotheses under names that nobody sees, and without these it is the goal in which they are opened.
use Rattle.std.specs.Option.{IsSome}
use Rattle.std.specs.Prelude.{All, AllPairs, Contains, bytes_eq, if◌then◌else◌}
use Rattle.std.proofs.Common.{◌≡◌, ◌≢◌, ◌⊎◌, inl, inr, ℕ, ◌<◌, Bool, List, [], ◌∷◌, ◌++◌, true, false, Option, Some, None, refl, sym, ◌∙◌, ap, subst}
use Rattle.std.proofs.lemmas.List.Elements.{All-nil, All-cons, All-head, All-tail, All-weaker}
use Rattle.ab_term.specs.Terms.{Read}
use Rattle.ab_term.proofs.Lists.{AllPairs-parts, Contains-none, Contains-here, Contains-there, Contains-cases}
use Rattle.std.proofs.lemmas.List.Kept.{AllPairs-cons}
use Rattle.ab_formulas.specs.Sequents.{Variable, Hypothesis, Sequent, IsUsed, named, others, formulas, formula_of, assuming, without, over, counted}
use Rattle.ab_formulas.specs.NewNames.{Label, auto, given, Names, automatic, IsFree}
use Rattle.std.proofs.lemmas.Slice.Eq.{bytes_eq-Decides}
use Rattle.ab_theory.proofs.Sequents.{found_there, others_all}
use Rattle.ab_effects.specs.ProofCommands.{cleared}
use Rattle.ab_consequences.specs.Leading.{HasNamed}
use Rattle.ab_consequences.proofs.Allowed.{found_last}
use Rattle.ab_consequences.proofs.Leading.{fresh, fresh_free, found_before, still_named, removed}
use Rattle.ab_derived_goals.proofs.Named.{same_name, other_name, none_used, used_some, others_none, without_last, without_other, named_others}

-- the name is none that a hypothesis takes by itself, nor the label
abbrev pub IsHidden : Label → List ℕ → Type 0
IsHidden l z = ((n : ℕ) → z ≢ automatic n) × ((x : List ℕ) → l ≡ given x → z ≢ x)

pub record Waits (l : Label) (w : Sequent) (zs : List (List ℕ)) (s : Sequent) (Fs : List Read) : Type 0 where
  pub rest : cleared zs w ≡ s
  pub has : HasNamed w zs Fs
  pub differ : AllPairs (λ x y. x ≢ y) zs
  pub hidden : All (IsHidden l) zs

some_one : {F G : Read} → Some F ≡ Some G → F ≡ G
some_one e = cc

-- WHAT IS LEFT without some

pub cleared_over : (zs : List (List ℕ)) (x : Variable) (w : Sequent) → cleared zs (over x w) ≡ over x (cleared zs w)
cleared_over [] x w = refl
cleared_over (z ∷ zs) x w = cleared_over zs x (without z w)

pub cleared_counted : (zs : List (List ℕ)) (n : ℕ) (w : Sequent) → cleared zs (counted n w) ≡ counted n (cleared zs w)
cleared_counted [] n w = refl
cleared_counted (z ∷ zs) n w = cleared_counted zs n (without z w)

pub cleared_assuming : (zs : List (List ℕ)) (x : List ℕ) (F : Read) (w : Sequent) → All (λ z. x ≢ z) zs → cleared zs (assuming x F w) ≡ assuming x F (cleared zs w)
cleared_assuming [] x F w apart = refl
cleared_assuming (z ∷ zs) x F w apart =
    ap (cleared zs) (without_other w z x F (All-head (λ z. x ≢ z) z zs apart))
    ∙ cleared_assuming zs x F (without z w) (All-tail (λ z. x ≢ z) z zs apart)

pub cleared_finds : (zs : List (List ℕ)) (x : List ℕ) (w : Sequent) → All (λ z. x ≢ z) zs → formula_of (cleared zs w) x ≡ formula_of w x
cleared_finds [] x w apart = refl
cleared_finds (z ∷ zs) x w apart =
    cleared_finds zs x (without z w) (All-tail (λ z. x ≢ z) z zs apart)
    ∙ named_others w.hypotheses z x (λ e. All-head (λ z. x ≢ z) z zs apart (sym e))

pub cleared_variables : (zs : List (List ℕ)) (w : Sequent) → (cleared zs w).variables ≡ w.variables
cleared_variables [] w = refl
cleared_variables (z ∷ zs) w = cleared_variables zs (without z w)

pub cleared_counter : (zs : List (List ℕ)) (w : Sequent) → (cleared zs w).counter ≡ w.counter
cleared_counter [] w = refl
cleared_counter (z ∷ zs) w = cleared_counter zs (without z w)

pub cleared_conclusion : (zs : List (List ℕ)) (w : Sequent) → (cleared zs w).conclusion ≡ w.conclusion
cleared_conclusion [] w = refl
cleared_conclusion (z ∷ zs) w = cleared_conclusion zs (without z w)

others_commute : (hs : List Hypothesis) (x y : List ℕ) → others (others hs x) y ≡ others (others hs y) x
others_commute [] x y = refl
others_commute (h ∷ hs) x y = go (bytes_eq h.name x) (bytes_eq h.name y) refl refl (others_commute hs x y)
  where
    go : (a b : Bool) → bytes_eq h.name x ≡ a → bytes_eq h.name y ≡ b → others (others hs x) y ≡ others (others hs y) x
        → others (if a then others hs x else (h ∷ others hs x)) y ≡ others (if b then others hs y else (h ∷ others hs y)) x
    go true true e f rest = rest
    go true false e f rest = rest ∙ sym (ap (λ (c : Bool). if c then others (others hs y) x else (h ∷ others (others hs y) x)) e)
    go false true e f rest = ap (λ (c : Bool). if c then others (others hs x) y else (h ∷ others (others hs x) y)) f ∙ rest
    go false false e f rest =
        ap (λ (c : Bool). if c then others (others hs x) y else (h ∷ others (others hs x) y)) f
        ∙ ap (λ l. h ∷ l) rest
        ∙ sym (ap (λ (c : Bool). if c then others (others hs y) x else (h ∷ others (others hs y) x)) e)

-- HYPOTHESES OF THESE NAMES

pub same_hypotheses : (k j : Sequent) → k.hypotheses ≡ j.hypotheses → (zs : List (List ℕ)) (Fs : List Read) → HasNamed k zs Fs → HasNamed j zs Fs
same_hypotheses k j e [] [] n = tt
same_hypotheses k j e [] (F ∷ Fs) n = absurd n
same_hypotheses k j e (z ∷ zs) [] n = absurd n
same_hypotheses k j e (z ∷ zs) (F ∷ Fs) n = (ap (λ hs. named hs z) (sym e) ∙ n.0, same_hypotheses k j e zs Fs n.1)

pub named_without : (w : Sequent) (x : List ℕ) (zs : List (List ℕ)) (Fs : List Read) → All (λ z. x ≢ z) zs → HasNamed w zs Fs → HasNamed (without x w) zs Fs
named_without w x [] [] apart n = tt
named_without w x [] (F ∷ Fs) apart n = absurd n
named_without w x (z ∷ zs) [] apart n = absurd n
named_without w x (z ∷ zs) (F ∷ Fs) apart n =
    (named_others w.hypotheses x z (All-head (λ z. x ≢ z) z zs apart) ∙ n.0, named_without w x zs Fs (All-tail (λ z. x ≢ z) z zs apart) n.1)

-- what isn't used is none of them
unused_apart : (w : Sequent) (x : List ℕ) (zs : List (List ℕ)) (Fs : List Read) → ¬ IsUsed w x → HasNamed w zs Fs → All (λ z. x ≢ z) zs
unused_apart w x [] Fs new n = All-nil (λ z. x ≢ z)
unused_apart w x (z ∷ zs) [] new n = absurd n
unused_apart w x (z ∷ zs) (F ∷ Fs) new n =
    All-cons (λ z. x ≢ z) z zs (λ e. new (subst (IsUsed w) (sym e) (used_some n.0))) (unused_apart w x zs Fs new n.1)

-- WHAT A GOAL SPEAKS OF, in which formulas wait

abbrev LabelsDiffer : List Hypothesis → Type 0
LabelsDiffer hs = AllPairs (λ (h k : Hypothesis). h.name ≢ k.name) hs

none_of_them : (hs : List Hypothesis) (x : List ℕ) → All (λ (k : Hypothesis). x ≢ k.name) hs → named hs x ≡ None
none_of_them [] x apart = refl
none_of_them (h ∷ hs) x apart =
    ap (λ (b : Bool). if b then Some h.formula else named hs x) (other_name h.name x (λ e. All-head (λ (k : Hypothesis). x ≢ k.name) h hs apart (sym e)))
    ∙ none_of_them hs x (All-tail (λ (k : Hypothesis). x ≢ k.name) h hs apart)

gone_or_left : (hs : List Hypothesis) (x : List ℕ) (F E : Read) → LabelsDiffer hs → named hs x ≡ Some F → Contains (formulas hs) E → (E ≡ F) ⊎ Contains (formulas (others hs x)) E
gone_or_left [] x F E differ has c = absurd (Contains-none E c)
gone_or_left (h ∷ hs) x F E differ has c = go (λ found m. gone_or_left hs x F E parts.1 found m) (bytes_eq h.name x) refl (Contains-cases h.formula (formulas hs) E c)
  where
    parts : All (λ (k : Hypothesis). h.name ≢ k.name) hs × LabelsDiffer hs
    parts = AllPairs-parts (λ (h k : Hypothesis). h.name ≢ k.name) h hs differ

    found : (b : Bool) → bytes_eq h.name x ≡ b → (if b then Some h.formula else named hs x) ≡ Some F
    found b e = sym (ap (λ (c : Bool). if c then Some h.formula else named hs x) e) ∙ has

    go : (named hs x ≡ Some F → Contains (formulas hs) E → (E ≡ F) ⊎ Contains (formulas (others hs x)) E) → (b : Bool) → bytes_eq h.name x ≡ b → (h.formula ≡ E) ⊎ Contains (formulas hs) E → (E ≡ F) ⊎ Contains (formulas (if b then others hs x else (h ∷ others hs x))) E
    go rest true e (inl m) = let same : h.formula ≡ F = some_one (found true e) in inl (sym m ∙ same)
    go rest true e (inr m) =
        let is : h.name ≡ x = (bytes_eq-Decides h.name x).0 e in
        inr (subst (λ l. Contains (formulas l) E) (sym (others_none hs x (none_of_them hs x (subst (λ y. All (λ (k : Hypothesis). y ≢ k.name) hs) is parts.0)))) m)
    go rest false e (inl m) = inr (subst (Contains (h.formula ∷ formulas (others hs x))) m (Contains-here h.formula (formulas (others hs x))))
    go rest false e (inr m) =
        elim (rest (found false e) m)
        [ inl k ↦ inl k | inr k ↦ inr (Contains-there h.formula (formulas (others hs x)) E k) ]

still_there : (hs : List Hypothesis) (x : List ℕ) (E : Read) → Contains (formulas (others hs x)) E → Contains (formulas hs) E
still_there [] x E c = c
still_there (h ∷ hs) x E c = go (λ d. still_there hs x E d) (bytes_eq h.name x) c
  where
    go : (Contains (formulas (others hs x)) E → Contains (formulas hs) E) → (b : Bool) → Contains (formulas (if b then others hs x else (h ∷ others hs x))) E → Contains (formulas (h ∷ hs)) E
    go rest true d = Contains-there h.formula (formulas hs) E (rest d)
    go rest false d = elim (Contains-cases h.formula (formulas (others hs x)) E d) [
      | inl e ↦ subst (Contains (h.formula ∷ formulas hs)) e (Contains-here h.formula (formulas hs))
      | inr k ↦ Contains-there h.formula (formulas hs) E (rest k)
    ]

pub cleared_within : (zs : List (List ℕ)) (w : Sequent) (E : Read) → Contains (formulas (cleared zs w).hypotheses) E → Contains (formulas w.hypotheses) E
cleared_within [] w E c = c
cleared_within (z ∷ zs) w E c = still_there w.hypotheses z E (cleared_within zs (without z w) E c)

-- no two of them have one name
abbrev Differ : List (List ℕ) → Type 0
Differ zs = AllPairs (λ x y. x ≢ y) zs

pub waiting_or_left : (zs : List (List ℕ)) (Fs : List Read) (w : Sequent) (E : Read) → LabelsDiffer w.hypotheses → Differ zs → HasNamed w zs Fs → Contains (formulas w.hypotheses) E
    → Contains Fs E ⊎ Contains (formulas (cleared zs w).hypotheses) E
waiting_or_left [] [] w E labels differ n c = inr c
waiting_or_left [] (F ∷ Fs) w E labels differ n c = absurd n
waiting_or_left (z ∷ zs) [] w E labels differ n c = absurd n
waiting_or_left (z ∷ zs) (F ∷ Fs) w E labels differ n c =
    let parts = AllPairs-parts (λ (x y : List ℕ). x ≢ y) z zs differ in
    elim (gone_or_left w.hypotheses z F E labels n.0 c) [
      | inl e ↦ inl (subst (Contains (F ∷ Fs)) (sym e) (Contains-here F Fs))
      | inr d ↦
          elim (waiting_or_left zs Fs (without z w) E (fewer w.hypotheses labels) parts.1 (named_without w z zs Fs parts.0 n.1) d)
          [ inl k ↦ inl (Contains-there F Fs E k) | inr k ↦ inr k ]
    ]
  where
    fewer : (hs : List Hypothesis) → LabelsDiffer hs → LabelsDiffer (others hs z)
    fewer [] d = d
    fewer (h ∷ hs) d =
        let two = AllPairs-parts (λ (h k : Hypothesis). h.name ≢ k.name) h hs d in
        let rest = fewer hs two.1 in
        elim (bytes_eq h.name z) as (λ (b : Bool). LabelsDiffer (if b then others hs z else (h ∷ others hs z)))
        [ true ↦ rest | false ↦ AllPairs-cons (λ (h k : Hypothesis). h.name ≢ k.name) h (others hs z) (others_all (λ (k : Hypothesis). h.name ≢ k.name) hs z two.0) rest ]

pub waiting_there : (zs : List (List ℕ)) (Fs : List Read) (w : Sequent) (E : Read) → HasNamed w zs Fs → Contains Fs E → Contains (formulas w.hypotheses) E
waiting_there zs [] w E n c = absurd (Contains-none E c)
waiting_there [] (F ∷ Fs) w E n c = absurd n
waiting_there (z ∷ zs) (F ∷ Fs) w E n c = elim (Contains-cases F Fs E c) [
  | inl e ↦ subst (Contains (formulas w.hypotheses)) e (found_there w.hypotheses z F n.0)
  | inr d ↦ waiting_there zs Fs w E n.1 d
]

-- A NAME THAT NOBODY SEES, which no hypothesis has

starts_apart : (l : List ℕ) (n : ℕ) → 0 ∷ l ≢ automatic n
starts_apart l n e = cc

pub record IsNewHidden (l : Label) (w : Sequent) (z : List ℕ) : Type 0 where
  pub new : ¬ IsUsed w z
  pub hidden : IsHidden l z

none_is_new : (w : Sequent) (z : List ℕ) → formula_of w z ≡ None → ¬ IsUsed w z
none_is_new w z none used = let clash : false ≡ true = subst (λ (o : Option Read). IsSome o) none used in cc

pub hidden_name : (l : Label) (w : Sequent) → (z : List ℕ) × IsNewHidden l w z
hidden_name auto w = (fresh w, record { new = none_is_new w (fresh w) (fresh_free w); hidden = (λ n. starts_apart _ n, λ x e. absurd (cc)) })
hidden_name (given x) w =
    let k = assuming x w.conclusion w in
    let z = fresh k in
    let none = fresh_free k in (
      z,
      record {
        new = λ used. none_is_new k z none (later used);
        hidden = (λ n. starts_apart _ n, λ y e same. apart (same ∙ sym (label y e)));
      },
    )
  where
    later : IsUsed w (fresh (assuming x w.conclusion w)) → IsUsed (assuming x w.conclusion w) (fresh (assuming x w.conclusion w))
    later used = go (formula_of w (fresh (assuming x w.conclusion w))) refl used
      where
        go : (o : Option Read) → formula_of w (fresh (assuming x w.conclusion w)) ≡ o → IsSome o → IsUsed (assuming x w.conclusion w) (fresh (assuming x w.conclusion w))
        go None e s = let clash : false ≡ true = s in cc
        go (Some F) e s = used_some (found_before w.hypotheses (record { name = x; formula = w.conclusion }) (fresh (assuming x w.conclusion w)) F e)

    label : (y : List ℕ) → given x ≡ given y → x ≡ y
    label y e = cc

    apart : fresh (assuming x w.conclusion w) ≢ x
    apart e = none_is_new (assuming x w.conclusion w) (fresh (assuming x w.conclusion w)) (fresh_free (assuming x w.conclusion w)) (subst (IsUsed (assuming x w.conclusion w)) (sym e) (last_used w.hypotheses))
      where
        last_used : (hs : List Hypothesis) → IsSome (named (hs ++ record { name = x; formula = w.conclusion } ∷ []) x)
        last_used [] = used_some (ap (λ (b : Bool). if b then Some w.conclusion else None) (same_name x))
        last_used (h ∷ hs) = go (bytes_eq h.name x) (last_used hs)
          where
            go : (b : Bool) → IsSome (named (hs ++ record { name = x; formula = w.conclusion } ∷ []) x) → IsSome (if b then Some h.formula else named (hs ++ record { name = x; formula = w.conclusion } ∷ []) x)
            go true r = refl
            go false r = r

-- what is hidden from a label is so where nothing is given
pub hidden_by_itself : (l : Label) (z : List ℕ) → IsHidden l z → IsHidden auto z
hidden_by_itself l z h = (h.0, λ x e. absurd (cc))

module _ (l : Label) where
  -- the first of them is gone
  pub first_gone : (w s : Sequent) (z : List ℕ) (zs : List (List ℕ)) (F : Read) (Fs : List Read) → Waits l w (z ∷ zs) s (F ∷ Fs) → Waits l (without z w) zs s Fs
  first_gone w s z zs F Fs h =
      let parts = AllPairs-parts (λ (x y : List ℕ). x ≢ y) z zs h.differ in
      record { rest = h.rest; has = named_without w z zs Fs parts.0 h.has.1; differ = parts.1; hidden = All-tail (IsHidden l) z zs h.hidden }

  -- another one takes its place, in a goal with the other hypotheses
  pub first_changed : (w s k t : Sequent) (z : List ℕ) (zs : List (List ℕ)) (F G : Read) (Fs : List Read) → Waits l w (z ∷ zs) s (F ∷ Fs) → k.hypotheses ≡ others w.hypotheses z → cleared zs k ≡ t
      → Waits l (assuming z G k) (z ∷ zs) t (G ∷ Fs)
  first_changed w s k t z zs F G Fs h same rest =
      let parts = AllPairs-parts (λ (x y : List ℕ). x ≢ y) z zs h.differ in
      let gone : formula_of k z ≡ None = ap (λ hs. named hs z) same ∙ removed w.hypotheses z in
      record {
        rest = ap (cleared zs) (without_last k z G gone) ∙ rest;
        has = (found_last k.hypotheses z G gone, still_named k z G zs Fs (same_hypotheses (without z w) k (sym same) zs Fs (named_without w z zs Fs parts.0 h.has.1)));
        differ = h.differ;
        hidden = h.hidden;
      }

  -- one more waits
  pub one_more : (w s : Sequent) (z : List ℕ) (zs : List (List ℕ)) (G : Read) (Fs : List Read) → Waits l w zs s Fs → IsNewHidden l w z → Waits l (assuming z G w) (z ∷ zs) s (G ∷ Fs)
  one_more w s z zs G Fs h new =
      let none = none_used (formula_of w z) new.new in
      record {
        rest = ap (cleared zs) (without_last w z G none) ∙ h.rest;
        has = (found_last w.hypotheses z G none, still_named w z G zs Fs h.has);
        differ = AllPairs-cons (λ (x y : List ℕ). x ≢ y) z zs (unused_apart w z zs Fs new.new h.has) h.differ;
        hidden = All-cons (IsHidden l) z zs new.hidden h.hidden;
      }

  -- the first two change places
  pub turned : (w s : Sequent) (x y : List ℕ) (zs : List (List ℕ)) (F G : Read) (Fs : List Read) → Waits l w (x ∷ y ∷ zs) s (F ∷ G ∷ Fs) → Waits l w (y ∷ x ∷ zs) s (G ∷ F ∷ Fs)
  turned w s x y zs F G Fs h =
      let R : List ℕ → List ℕ → Type 0 = λ x y. x ≢ y in
      let first = AllPairs-parts R x (y ∷ zs) h.differ in
      let second = AllPairs-parts R y zs first.1 in
      let apart : y ≢ x = λ e. All-head (R x) y zs first.0 (sym e) in
      let tail = All-tail (IsHidden l) x (y ∷ zs) h.hidden in
      record {
        rest = ap (λ hs. cleared zs (record { variables = w.variables; hypotheses = hs; conclusion = w.conclusion; counter = w.counter })) (others_commute w.hypotheses y x) ∙ h.rest;
        has = (h.has.1.0, (h.has.0, h.has.1.1));
        differ = AllPairs-cons R y (x ∷ zs) (All-cons (R y) x zs apart second.0) (AllPairs-cons R x zs (All-tail (R x) y zs first.0) second.1);
        hidden = All-cons (IsHidden l) y (x ∷ zs) (All-head (IsHidden l) y zs tail) (All-cons (IsHidden l) x zs (All-head (IsHidden l) x (y ∷ zs) h.hidden) (All-tail (IsHidden l) y zs tail));
      }

-- A NEW HYPOTHESIS of the goal in which they are opened gets its name where they wait

automatic_apart : (l : Label) (zs : List (List ℕ)) → All (IsHidden l) zs → (n : ℕ) → All (λ z. automatic n ≢ z) zs
automatic_apart l zs hidden n = All-weaker (IsHidden l) (λ z. automatic n ≢ z) (λ z h e. h.0 n (sym e)) zs hidden

free_there : (l : Label) (zs : List (List ℕ)) (w : Sequent) → All (IsHidden l) zs → (n : ℕ) → IsFree (cleared zs w) n → IsFree w n
free_there l zs w hidden n f = record {
  above = subst (λ c. c < n) (cleared_counter zs w) f.above;
  within = f.within;
  unused = λ used. f.unused (subst (λ (o : Option Read). IsSome o) (sym (cleared_finds zs (automatic n) w (automatic_apart l zs hidden n))) used);
}

free_here : (l : Label) (zs : List (List ℕ)) (w : Sequent) → All (IsHidden l) zs → (n : ℕ) → IsFree w n → IsFree (cleared zs w) n
free_here l zs w hidden n f = record {
  above = subst (λ c. c < n) (sym (cleared_counter zs w)) f.above;
  within = f.within;
  unused = λ used. f.unused (subst (λ (o : Option Read). IsSome o) (cleared_finds zs (automatic n) w (automatic_apart l zs hidden n)) used);
}

pub record NamedThere (l : Label) (w : Sequent) (zs : List (List ℕ)) (x : List ℕ) (v t : Sequent) : Type 0 where
  pub names : Names l w x t
  pub hypotheses : t.hypotheses ≡ w.hypotheses
  pub left : cleared zs t ≡ v
  pub apart : All (λ z. x ≢ z) zs

pub named_there : (l : Label) (w : Sequent) (zs : List (List ℕ)) (x : List ℕ) (v : Sequent) → All (IsHidden l) zs → Names l (cleared zs w) x v → (t : Sequent) × NamedThere l w zs x v t
named_there auto w zs x v hidden (n, least, name, goal) = (
  counted n w,
  record {
    names = (n, record { has = free_there auto zs w hidden n least.has; first = λ m l f. least.first m l (free_here auto zs w hidden m f) }, name, refl);
    hypotheses = refl;
    left = cleared_counted zs n w ∙ sym goal;
    apart = subst (λ y. All (λ z. y ≢ z) zs) (sym name) (automatic_apart auto zs hidden n);
  },
)
named_there (given y) w zs x v hidden (new, name, goal) =
    let apart = All-weaker (IsHidden (given y)) (λ z. y ≢ z) (λ z h e. h.1 y refl (sym e)) zs hidden in (
      w,
      record {
        names = (λ used. new (subst (λ (o : Option Read). IsSome o) (sym (cleared_finds zs y w apart)) used), name, refl);
        hypotheses = refl;
        left = sym goal;
        apart = subst (λ y. All (λ z. y ≢ z) zs) (sym name) apart;
      },
    )

-- A goal's hypotheses but for one, as they are copied.
use Rattle.std.specs.Prelude.{bytes_eq, if◌then◌else◌}
use Rattle.std.specs.List.{All}
use Rattle.std.proofs.Common.{◌≡◌, not, ℕ, ◌+◌, ◌<◌, List, [], ◌∷◌, ◌++◌, Bool, true, false, map, length, take, get_or, refl, sym, ◌∙◌, ap, subst}
use Rattle.std.proofs.lemmas.List.{map_more, map-append, append-nil}
use Rattle.std.proofs.lemmas.List.Elements.{All-push}
use Rattle.ab_logic.specs.Worlds.{Holds}
use Rattle.ab_formulas.specs.Sequents.{Hypothesis, others}
use Rattle.ab_logic.specs.SequentReadings.{hypothesis_of}
use Rattle.ab_logic.specs.declared.world.World.{World}
use Rattle.ab_logic.specs.declared.sequent.Hypothesis.{Hypothesis as Kept}

one_more : (b : Bool) (x : Hypothesis) (whole front back : List Hypothesis) → whole ≡ front ++ back
    → (if b then whole else (x ∷ whole)) ≡ (if b then front else (x ∷ front)) ++ back
one_more true x whole front back e = e
one_more false x whole front back e = ap (λ zs. x ∷ zs) e

others-append : (xs ys : List Hypothesis) (name : List ℕ) → others (xs ++ ys) name ≡ others xs name ++ others ys name
others-append [] ys name = refl
others-append (x ∷ xs) ys name = one_more (bytes_eq x.name name) x (others (xs ++ ys) name) (others xs name) (others ys name) (others-append xs ys name)

others_more : (w : World) (hs : List Kept) (i : ℕ) (h : Kept) (name : List ℕ) → i < length hs → h ≡ get_or hs i h
    → others (map (hypothesis_of w) (take (i + 1) hs)) name ≡ others (map (hypothesis_of w) (take i hs)) name ++ others (hypothesis_of w h ∷ []) name
others_more w hs i h name l e =
    ap (λ xs. others xs name) (map_more (hypothesis_of w) hs i h l)
    ∙ others-append (map (hypothesis_of w) (take i hs)) (hypothesis_of w (get_or hs i h) ∷ []) name
    ∙ ap (λ x. others (map (hypothesis_of w) (take i hs)) name ++ others (hypothesis_of w x ∷ []) name) (sym e)

abbrev Held : World → List Kept → Type 0
Held w = All (λ (h : Kept). Holds w h.formula)

-- the first i hypotheses were looked at, and those that stay are copied
pub record Copied (hs : List Kept) (i : ℕ) (ks : List Kept) (name : List ℕ) : Type 0 where
  pub reads : (w : World) → map (hypothesis_of w) ks ≡ others (map (hypothesis_of w) (take i hs)) name
  pub held : (w : World) → All (λ (h : Kept). Holds w h.formula) hs → All (λ (h : Kept). Holds w h.formula) ks

not_false : (b : Bool) → true ≡ not b → b ≡ false
not_false false e = refl
not_false true e = cc

not_true : (b : Bool) → false ≡ not b → b ≡ true
not_true false e = cc
not_true true e = refl

pub copied_more : (hs ks new : List Kept) (i : ℕ) (h k : Kept) (name : List ℕ) → Copied hs i ks name
    → i < length hs → h ≡ get_or hs i h → k ≡ h → true ≡ not (bytes_eq h.name name) → new ≡ ks ++ k ∷ [] → Copied hs (i + 1) new name
copied_more hs ks new i h k name so_far l e same apart is = record {
  reads = λ w.
      ap (map (hypothesis_of w)) is
      ∙ map-append (hypothesis_of w) ks (k ∷ [])
      ∙ ap (λ xs. xs ++ hypothesis_of w k ∷ []) (so_far.reads w)
      ∙ ap (λ x. others (map (hypothesis_of w) (take i hs)) name ++ hypothesis_of w x ∷ []) same
      ∙ ap (λ b. others (map (hypothesis_of w) (take i hs)) name ++ (if b then [] else (hypothesis_of w h ∷ []))) (sym (not_false (bytes_eq h.name name) apart))
      ∙ sym (others_more w hs i h name l e);
  held = λ w all.
      subst (Held w) (sym is)
      (All-push (λ (x : Kept). Holds w x.formula) ks k (so_far.held w all)
      (subst (λ (x : Kept). Holds w x.formula) (sym (same ∙ e)) (all i h l)));
}

pub copied_past : (hs ks new : List Kept) (i : ℕ) (h : Kept) (name : List ℕ) → Copied hs i ks name
    → i < length hs → h ≡ get_or hs i h → false ≡ not (bytes_eq h.name name) → new ≡ ks → Copied hs (i + 1) new name
copied_past hs ks new i h name so_far l e same is = record {
  reads = λ w.
      ap (map (hypothesis_of w)) is
      ∙ so_far.reads w
      ∙ sym (append-nil (others (map (hypothesis_of w) (take i hs)) name))
      ∙ ap (λ b. others (map (hypothesis_of w) (take i hs)) name ++ (if b then [] else (hypothesis_of w h ∷ []))) (sym (not_true (bytes_eq h.name name) same))
      ∙ sym (others_more w hs i h name l e);
  held = λ w all. subst (Held w) (sym is) (so_far.held w all);
}

-- Where a command stands, as its first tokens say.
use Rattle.std.proofs.Common.{◌≡◌, ℕ, zero, suc, ◌<◌, ◌≤◌, List, [], ◌∷◌, ◌↔◌, Some, None, length, get_or, refl, ap, subst, drop, map, arith}
use Rattle.ab_grammar.specs.declared.head.Head.{Head}
use Rattle.ab_grammar.specs.declared.head.ProofHead.{ProofHead}
use Rattle.ab_grammar.specs.declared.head.Stand.{Stand}
use Rattle.ab_grammar.specs.declared.head.Stand.TheVariants.{Inside}
use Rattle.ab_grammar.specs.Token.{Token, colon}
use Rattle.ab_grammar.proofs.Following.{first}
use Rattle.ab_grammar.specs.CommandTable.{Opens, OpensProof, ShowsLabel, stand_of, StandsAt, by_head, by_proof_head, by_label}
use Rattle.ab_grammar.proofs.Heads.{plain_no_label, proof_no_label}
use Rattle.ab_grammar.proofs.Standing.{one_stand}
use Rattle.ab_syntax.specs.Openings.{BeginsNothing}

module _ {L : Type 0} (f : L → Token) where
  -- the token at a place, if there is one
  pub first_at : (ts : List L) (i : ℕ) (d : L) → i < length ts → first (drop i (map f ts)) ≡ Some (f (get_or ts i d))
  first_at [] i d h = absurd (omega arith)
  first_at (t ∷ ts) zero d h = refl
  first_at (t ∷ ts) (suc i) d h = first_at ts i d (omega arith)

  pub none_at : (ts : List L) (i : ℕ) → length ts ≤ i → first (drop i (map f ts)) ≡ None
  none_at [] zero h = refl
  none_at [] (suc i) h = refl
  none_at (t ∷ ts) zero h = absurd (omega arith)
  none_at (t ∷ ts) (suc i) h = none_at ts i (omega arith)

-- the one place that the tokens say
pub exactly : (ts : List Token) (a s : Stand) → StandsAt ts a → (Some a ≡ Some s) ↔ StandsAt ts s
exactly ts a s d = (λ e. let same : a ≡ s = cc in subst (StandsAt ts) same d, λ f. ap Some (one_stand ts a s d f))

pub nowhere : (ts : List Token) (s : Stand) → (StandsAt ts s → ⊥) → (None ≡ Some s) ↔ StandsAt ts s
nowhere ts s n = (λ e. absurd (cc), λ d. absurd (n d))

pub plain_stands : (ts : List Token) (k : Token) (h : Head) → first ts ≡ Some k → Opens h k tt → StandsAt ts (stand_of h)
plain_stands [] k h e o = absurd (cc)
plain_stands (j ∷ ks) k h e o = let same : k ≡ j = cc in by_head h ks (subst (λ (i : Token). Opens h i tt) same o)

pub proof_stands : (ts : List Token) (k : Token) (h : ProofHead) → first ts ≡ Some k → OpensProof h k tt → StandsAt ts Inside
proof_stands [] k h e o = absurd (cc)
proof_stands (j ∷ ks) k h e o = let same : k ≡ j = cc in by_proof_head h ks (subst (λ (i : Token). OpensProof h i tt) same o)

pub label_stands : (ts : List Token) (k : Token) (x : List ℕ) → first ts ≡ Some k → ShowsLabel k x → first (drop 1 ts) ≡ Some colon → StandsAt ts Inside
label_stands [] k x e s f = absurd (cc)
label_stands (j ∷ []) k x e s f = absurd (cc)
label_stands (j ∷ i ∷ ks) k x e s f =
    let same : k ≡ j = cc in
    let is : colon ≡ i = cc in
    subst (λ (m : Token). StandsAt (j ∷ m ∷ ks) Inside) is (by_label x ks (subst (λ (m : Token). ShowsLabel m x) same s))

pub nothing_stands : (ts : List Token) (k : Token) (s : Stand) → first ts ≡ Some k → BeginsNothing k → StandsAt ts s → ⊥
nothing_stands _ k _ e n (by_head {k = j} h ks o) = let same : j ≡ k = cc in n.no_plain h (subst (λ (i : Token). Opens h i tt) same o)
nothing_stands _ k _ e n (by_proof_head {k = j} h ks o) = let same : j ≡ k = cc in n.no_proof h (subst (λ (i : Token). OpensProof h i tt) same o)
nothing_stands _ k _ e n (by_label {k = j} x ks s) = let same : j ≡ k = cc in n.no_label x (subst (λ (i : Token). ShowsLabel i x) same s)

pub no_colon_stands : (ts : List Token) (k : Token) (x : List ℕ) (s : Stand) → first ts ≡ Some k → ShowsLabel k x → (first (drop 1 ts) ≡ Some colon → ⊥) → StandsAt ts s → ⊥
no_colon_stands _ k x _ e l n (by_head {k = j} h ks o) = let same : j ≡ k = cc in plain_no_label h k x l (subst (λ (i : Token). Opens h i tt) same o)
no_colon_stands _ k x _ e l n (by_proof_head {k = j} h ks o) = let same : j ≡ k = cc in proof_no_label h k x l (subst (λ (i : Token). OpensProof h i tt) same o)
no_colon_stands _ k x _ e l n (by_label y ks s) = n refl

-- The rules that replace no variable, where the sides are known.
use Rattle.std.proofs.Common.{◌≡◌, ◌≢◌, ◌↔◌, ℕ, List, [], ◌∷◌, Bool, true, false, cond, ◌||◌, Option, Some, None, IsTrue, sym, ◌∙◌, ap}
use Rattle.std.proofs.lemmas.Bool.{false≢true, false_from_ne_true}
use Rattle.ab_term.specs.Types.{Ty}
use Rattle.ab_term.specs.Terms as tree
use Rattle.ab_term.specs.Terms.{Term, Terms, Variable, lam, spine}
use Rattle.ab_term.specs.Translation.{EqualPastHints}
use Rattle.ab_norm.specs.ab_types.specs.Entries.{Table}
use Rattle.ab_norm.specs.ab_types.specs.Sound.{IsTable}
use Rattle.ab_norm.specs.ab_store.specs.declared.node.Head.{Head}
use Rattle.ab_norm.specs.ab_store.specs.Trees.{Contents, head_reading}
use Rattle.ab_norm.specs.ab_store.specs.Naming.{HeadIsTyped}
use Rattle.ab_norm.proofs.OneHead.{one_head}
use Rattle.ab_term.specs.Sameness.{same_head, same_term}
use Rattle.ab_unifiers.specs.Replacements.{is_flexible}
use Rattle.ab_unifiers.specs.Unification.{Equation, Result, clash, parts, or_else, equal_sides, bodies, rigid_heads, paired}
use Rattle.ab_term.proofs.Same.{same_head-Decides, same_term-Decides}

module _ (ys : List (Variable ℕ)) (p : ℕ) (g h : tree.Head ℕ) (ts us : Terms ℕ (List ℕ)) (first : false ≡ is_flexible ys g) (second : false ≡ is_flexible ys h) where
  rigid_both : rigid_heads ys p (spine g ts) (spine h us) ≡ Some (cond (same_head g h) (parts (paired p ts us)) clash)
  rigid_both = ap (λ b. cond (b || is_flexible ys h) None (Some (cond (same_head g h) (parts (paired p ts us)) clash))) (sym first)
      ∙ ap (λ b. cond b None (Some (cond (same_head g h) (parts (paired p ts us)) clash))) (sym second)

  pub one_rigid : g ≡ h → Some (parts (paired p ts us)) ≡ rigid_heads ys p (spine g ts) (spine h us)
  one_rigid e = sym (rigid_both ∙ ap (λ b. Some (cond b (parts (paired p ts us)) clash)) ((same_head-Decides g h).1 e))

  pub other_rigid : g ≢ h → Some clash ≡ rigid_heads ys p (spine g ts) (spine h us)
  other_rigid n = sym (rigid_both ∙ ap (λ b. Some (cond b (parts (paired p ts us)) clash)) (false_from_ne_true (same_head g h) (λ e. n ((same_head-Decides g h).0 e))))

pub heads_differ : (types : Table) (store : Contents) (h g : Head) → IsTable types → HeadIsTyped types h → HeadIsTyped types g → h ≢ g → head_reading types store h ≢ head_reading types store g
heads_differ types store h g ok a b n e = n (one_head types ok store h g a b e)

module _ (ys : List (Variable ℕ)) (e : Equation (List ℕ)) where
  -- equal sides
  pub at_equal : EqualPastHints e.left e.right → (o : Option (Result (List ℕ))) → Some (parts []) ≡ or_else (equal_sides e) o
  at_equal s o = sym (ap (λ b. or_else (cond b (Some (parts [])) None) o) ((same_term-Decides e.left e.right).1 s))

  not_equal : (EqualPastHints e.left e.right → ⊥) → (o : Option (Result (List ℕ))) → or_else (equal_sides e) o ≡ o
  not_equal n o = ap (λ b. or_else (cond b (Some (parts [])) None) o) (false_from_ne_true (same_term e.left e.right) (λ s. n ((same_term-Decides e.left e.right).0 s)))

  pub at_lams : (EqualPastHints e.left e.right → ⊥) → (A B : Ty) (x y : (List ℕ)) (t u : Term ℕ (List ℕ)) → e.left ≡ lam A x t → e.right ≡ lam B y u → (r : Option (Result (List ℕ))) → r ≡ Some (parts (record { place = e.place; left = t; right = u } ∷ []))
      → r ≡ or_else (equal_sides e) (or_else (bodies e.place e.left e.right) (rigid_heads ys e.place e.left e.right))
  at_lams n A B x y t u l m r is =
      is ∙ sym (not_equal n (or_else (bodies e.place e.left e.right) (rigid_heads ys e.place e.left e.right))
      ∙ ap (λ s. or_else (bodies e.place s e.right) (rigid_heads ys e.place s e.right)) l
      ∙ ap (λ s. or_else (bodies e.place (lam A x t) s) (rigid_heads ys e.place (lam A x t) s)) m)

  pub at_spines : (EqualPastHints e.left e.right → ⊥) → (g h : tree.Head ℕ) (ts us : Terms ℕ (List ℕ)) → e.left ≡ spine g ts → e.right ≡ spine h us → (r : Option (Result (List ℕ))) → r ≡ rigid_heads ys e.place (spine g ts) (spine h us)
      → r ≡ or_else (equal_sides e) (or_else (bodies e.place e.left e.right) (rigid_heads ys e.place e.left e.right))
  at_spines n g h ts us l m r is =
      is ∙ sym (not_equal n (or_else (bodies e.place e.left e.right) (rigid_heads ys e.place e.left e.right))
      ∙ ap (λ s. or_else (bodies e.place s e.right) (rigid_heads ys e.place s e.right)) l
      ∙ ap (λ s. or_else (bodies e.place (spine g ts) s) (rigid_heads ys e.place (spine g ts) s)) m)

-- a test that decides, both ways
pub true_or_not : (b : Bool) (P : Type 0) → (IsTrue b) ↔ P → (b ≡ true → P) × (b ≡ false → P → ⊥)
true_or_not b P d = (λ e. d.0 e, λ e p. false≢true (sym e ∙ d.1 p))

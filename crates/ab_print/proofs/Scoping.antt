-- What is chosen for a bound name tells it apart from all that stands in its binder's body.
use Rattle.std.proofs.Common.{◌≡◌, ℕ, zero, suc, ◌+◌, ◌≤◌, length, List, [], ◌∷◌, Option, Some, None, Contains, refl, sym, ◌∙◌, ap, arith}
use Rattle.std.specs.List.{filter_map, cons_option}
use Rattle.ab_term.specs.Types.{Ty}
use Rattle.ab_term.specs.Terms.{Head, constant, logical, nominal, variable, index, Term, lam}
use Rattle.ab_term.specs.Substitution.{shift_head, lower_head}
use Rattle.ab_print.specs.PrintedNames.{name_of, free_heads}
use Rattle.ab_print.specs.NameAssignment.{names_in, bound_name}
use Rattle.ab_print.specs.NameScopes.{IsShort, ArePrintedApart}
use Rattle.ab_print.proofs.Membership.{to_filter_map}
use Rattle.ab_print.proofs.FreeNames.{fresh_is_free}

module _ {X Y : Type 0} (f : X → Option Y) where
  fewer_by : (o : Option Y) (ys : List Y) → length (cons_option o ys) ≤ 1 + length ys
  fewer_by None ys = omega arith
  fewer_by (Some y) ys = omega arith

  fewer : (xs : List X) → length (filter_map f xs) ≤ length xs
  fewer [] = omega arith
  fewer (x ∷ xs) = omega (arith, fewer xs, fewer_by (f x) (filter_map f xs))

module _ {Var : Type 0} (name : Var → List ℕ) where
  pub captures_nothing : (names : List (List ℕ)) (A : Ty) (x : List ℕ) (t : Term Var (List ℕ))
      → IsShort (free_heads (lam A x t)) → Contains (names_in name names (free_heads (lam A x t))) (bound_name name names x t) → ⊥
  captures_nothing names A x t short h =
      let few : length (names_in name names (free_heads (lam A x t))) ≤ length (free_heads (lam A x t)) = fewer (name_of name names) (free_heads (lam A x t)) in
      fresh_is_free (names_in name names (free_heads (lam A x t))) x (omega arith) h

  -- a head in a binder's body: the bound name, or one that stands outside too, printed as it is there
  data Seen (names : List (List ℕ)) (y : List ℕ) (h : Head Var) : Type 0 where
    own : h ≡ index zero → name_of name (y ∷ names) h ≡ Some y → Seen names y h
    outer : (g : Head Var) → lower_head 0 h ≡ Some g → name_of name (y ∷ names) h ≡ name_of name names g → Seen names y h

  seen : (names : List (List ℕ)) (y : List ℕ) (h : Head Var) → Seen names y h
  seen names y (constant c) = outer (constant c) refl refl
  seen names y (logical l) = outer (logical l) refl refl
  seen names y (nominal a) = outer (nominal a) refl refl
  seen names y (variable v) = outer (variable v) refl refl
  seen names y (index zero) = own refl refl
  seen names y (index (suc i)) = outer (index i) refl refl

  shifted_back : (h k : Head Var) → lower_head 0 h ≡ Some k → h ≡ shift_head 0 k
  shifted_back (constant c) k p = let e : constant c ≡ k = cc in ap (shift_head 0) e
  shifted_back (logical l) k p = let e : logical l ≡ k = cc in ap (shift_head 0) e
  shifted_back (nominal a) k p = let e : nominal a ≡ k = cc in ap (shift_head 0) e
  shifted_back (variable v) k p = let e : variable v ≡ k = cc in ap (shift_head 0) e
  shifted_back (index zero) k p = absurd (cc)
  shifted_back (index (suc i)) k p = let e : index i ≡ k = cc in ap (shift_head 0) e

  lowered_once : (h g k : Head Var) → lower_head 0 h ≡ Some k → lower_head 0 g ≡ Some k → h ≡ g
  lowered_once h g k p q = shifted_back h k p ∙ sym (shifted_back g k q)

  tells_apart : (names : List (List ℕ)) (A : Ty) (x : List ℕ) (t : Term Var (List ℕ)) (h g : Head Var) (w : List ℕ)
      → IsShort (free_heads (lam A x t)) → ArePrintedApart name names (free_heads (lam A x t)) → Contains (free_heads t) h → Contains (free_heads t) g
      → Seen names (bound_name name names x t) h → Seen names (bound_name name names x t) g
      → name_of name (bound_name name names x t ∷ names) h ≡ Some w → name_of name (bound_name name names x t ∷ names) g ≡ Some w → h ≡ g
  tells_apart names A x t h g w short apart a b (own e p) (own f q) m n = e ∙ sym f
  tells_apart names A x t h g w short apart a b (own e p) (outer k f q) m n =
      let same : name_of name names k ≡ Some (bound_name name names x t) = sym q ∙ n ∙ sym m ∙ p in
      absurd (captures_nothing names A x t short (to_filter_map (name_of name names) (free_heads (lam A x t)) k (bound_name name names x t) (to_filter_map (lower_head 0) (free_heads t) g k b f) same))
  tells_apart names A x t h g w short apart a b (outer k f q) (own e p) m n =
      let same : name_of name names k ≡ Some (bound_name name names x t) = sym q ∙ m ∙ sym n ∙ p in
      absurd (captures_nothing names A x t short (to_filter_map (name_of name names) (free_heads (lam A x t)) k (bound_name name names x t) (to_filter_map (lower_head 0) (free_heads t) h k a f) same))
  tells_apart names A x t h g w short apart a b (outer k f q) (outer j e p) m n =
      let one : k ≡ j = apart k j w (to_filter_map (lower_head 0) (free_heads t) h k a f) (to_filter_map (lower_head 0) (free_heads t) g j b e) (sym q ∙ m) (sym p ∙ n) in
      lowered_once h g k f (e ∙ ap Some (sym one))

  pub apart_in_body : (names : List (List ℕ)) (A : Ty) (x : List ℕ) (t : Term Var (List ℕ))
      → IsShort (free_heads (lam A x t)) → ArePrintedApart name names (free_heads (lam A x t)) → ArePrintedApart name (bound_name name names x t ∷ names) (free_heads t)
  apart_in_body names A x t short apart h g w a b m n =
      tells_apart names A x t h g w short apart a b (seen names (bound_name name names x t) h) (seen names (bound_name name names x t) g) m n

-- Patterns as rules: what it says that arguments have these names.
use Rattle.std.proofs.Common.{◌≡◌, ℕ, zero, suc, ◌≤◌, List, [], ◌∷◌, length, Bool, true, false, cond, ◌&&◌, Option, Some, None, refl, sym, ◌∙◌, ap, subst, arith}
use Rattle.std.specs.List.{list_all}
use Rattle.std.proofs.lemmas.Bool.{and_parts}
use Rattle.ab_term.specs.Types.{Ty, kind, arrow, arity}
use Rattle.ab_term.specs.Terms.{Head, Term, Terms, no_terms, term}
use Rattle.ab_term.specs.Translation.{forget, forget_all}
use Rattle.ab_term.specs.Expansion.{expansion}
use Rattle.ab_term.specs.Sameness.{same_head}
use Rattle.ab_term.specs.Abstraction.{among, is_name}
use Rattle.ab_term.specs.EtaHeads.{inner_head, expands}
use Rattle.ab_term.proofs.Same.{same_term-Decides, same_head-Decides}
use Rattle.ab_term.proofs.Forgetting.{forget_plain}
use Rattle.ab_unifiers.specs.Patterns.{name_if, tested_name, name_of, new_name, pattern}
use Rattle.ab_unifiers.specs.Unification.{agreeing}

module _ {Hint : Type 0} where
  -- the term of type A is the name h, up to eta and hints
  pub record IsName (A : Ty) (t : Term ℕ Hint) (h : Head ℕ) : Type 0 where
    pub name : is_name h ≡ true
    pub expansion : forget t ≡ expansion tt A h

  pub data IsPattern : Ty → Terms ℕ Hint → List (Head ℕ) → Type 0 where
    pattern_end : {A : Ty} → IsPattern A no_terms []
    pattern_more : {A B : Ty} {t : Term ℕ Hint} {ts : Terms ℕ Hint} {h : Head ℕ} {hs : List (Head ℕ)} → IsName A t h → among hs h ≡ false → IsPattern B ts hs → IsPattern (arrow A B) (term t ts) (h ∷ hs)

  tested : (A : Ty) (t : Term ℕ Hint) (o : Option (Head ℕ)) (h : Head ℕ) → tested_name A t o ≡ Some h → IsName A t h
  tested A t None h e = absurd (cc)
  tested A t (Some g) h e = go (is_name g && expands A t g) refl e
    where
      go : (b : Bool) → (is_name g && expands A t g) ≡ b → name_if b g ≡ Some h → IsName A t h
      go false f e = absurd (cc)
      go true f e =
          let parts = and_parts (is_name g) (expands A t g) f in
          let same : g ≡ h = cc in
          subst (IsName A t) same (record { name = parts.0; expansion = sym (forget_plain (forget t)) ∙ (same_term-Decides (forget t) (expansion tt A g)).0 parts.1 ∙ forget_plain (expansion tt A g) })

  pub named : (A : Ty) (t : Term ℕ Hint) (h : Head ℕ) → name_of A t ≡ Some h → IsName A t h
  named A t h e = tested A t (inner_head t) h e

  more_named : (A B : Ty) (t : Term ℕ Hint) (ts : Terms ℕ Hint) (o : Option (Head ℕ)) (q : Option (List (Head ℕ))) (hs : List (Head ℕ)) → name_of A t ≡ o → ((gs : List (Head ℕ)) → q ≡ Some gs → IsPattern B ts gs) → new_name o q ≡ Some hs → IsPattern (arrow A B) (term t ts) hs
  more_named A B t ts None q hs f rest e = absurd (cc)
  more_named A B t ts (Some h) None hs f rest e = absurd (cc)
  more_named A B t ts (Some h) (Some gs) hs f rest e = go (among gs h) refl e
    where
      go : (b : Bool) → among gs h ≡ b → cond b None (Some (h ∷ gs)) ≡ Some hs → IsPattern (arrow A B) (term t ts) hs
      go true g e = absurd (cc)
      go false g e =
          let same : h ∷ gs ≡ hs = cc in
          subst (IsPattern (arrow A B) (term t ts)) same (pattern_more (named A t h f) g (rest gs refl))

  pub is_pattern : (A : Ty) (ts : Terms ℕ Hint) (hs : List (Head ℕ)) → pattern A ts ≡ Some hs → IsPattern A ts hs
  is_pattern A no_terms hs e =
      let same : [] ≡ hs = cc in
      subst (IsPattern A no_terms) same pattern_end
  is_pattern (kind k) (term t ts) hs e = absurd (cc)
  is_pattern (arrow A B) (term t ts) hs e = more_named A B t ts (name_of A t) (pattern B ts) hs refl (is_pattern B ts) e

  pub pattern_length : {A : Ty} {ts : Terms ℕ Hint} {hs : List (Head ℕ)} → IsPattern A ts hs → length hs ≤ arity A
  pattern_length pattern_end = omega arith
  pattern_length (pattern_more n d p) = omega (arith, pattern_length p)

  -- where all names agree, so do the arguments past hints
  pub agreeing_all : {A : Ty} {ts us : Terms ℕ Hint} {gs hs : List (Head ℕ)} → IsPattern A ts gs → IsPattern A us hs → list_all (λ b. b) (agreeing gs hs) ≡ true → forget_all ts ≡ forget_all us
  agreeing_all pattern_end pattern_end e = refl
  agreeing_all pattern_end (pattern_more m d q) e = absurd (cc)
  agreeing_all (pattern_more n d p) pattern_end e = absurd (cc)
  agreeing_all (pattern_more {A = A} {t = t} {ts = ts} {h = g} {hs = gs} n d p) (pattern_more {t = u} {ts = us} {h = h} {hs = hs} m c q) e =
      let parts = and_parts (same_head g h) (list_all (λ b. b) (agreeing gs hs)) e in
      let one : forget t ≡ forget u = n.expansion ∙ ap (expansion tt A) ((same_head-Decides g h).0 parts.0) ∙ sym m.expansion in
      ap (λ s. term s (forget_all ts)) one ∙ ap (term (forget u)) (agreeing_all p q parts.1)

pub agreeing_length : (gs hs : List (Head ℕ)) (n : ℕ) → length gs ≤ n → length hs ≤ n → length (agreeing gs hs) ≤ n
agreeing_length [] [] n l m = omega arith
agreeing_length [] (h ∷ hs) zero l m = absurd (omega (arith, m))
agreeing_length [] (h ∷ hs) (suc n) l m = omega (arith, agreeing_length [] hs n (omega arith) (omega (arith, m)))
agreeing_length (g ∷ gs) [] zero l m = absurd (omega (arith, l))
agreeing_length (g ∷ gs) [] (suc n) l m = omega (arith, agreeing_length gs [] n (omega (arith, l)) (omega arith))
agreeing_length (g ∷ gs) (h ∷ hs) zero l m = absurd (omega (arith, l))
agreeing_length (g ∷ gs) (h ∷ hs) (suc n) l m = omega (arith, agreeing_length gs hs n (omega (arith, l)) (omega (arith, m)))

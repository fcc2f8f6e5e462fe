-- Cover, for clauses with `nabla`: the guess is renamed, so that its constants are those of a choice.
use Rattle.std.proofs.Common.{◌≡◌, ◌≢◌, ℕ, suc, List, [], ◌∷◌, ◌++◌, map, refl, sym, ◌∙◌, ap, subst}
use Rattle.std.specs.Prelude.{AllPairs, Contains}
use Rattle.ab_term.specs.Terms.{Nominal, Variable, nominal, Term, no_terms}
use Rattle.ab_term.specs.Typing.{Signature}
use Rattle.ab_term.specs.Expansion.{expansion}
use Rattle.ab_term.specs.Translation.{forget}
use Rattle.ab_term.specs.Names.{support, rename}
use Rattle.ab_term.specs.Variables.{image}
use Rattle.ab_term.proofs.Translations.{translate-rename, map-append}
use Rattle.ab_term.proofs.Renamings.{renamed, rename-image, rename_typed, rename-expansion_of, support-rename}
use Rattle.ab_term.proofs.UpToNames.{rename-itself}
use Rattle.ab_term.proofs.Lists.{Contains-none, Contains-here, Contains-there, Contains-cases, Contains-from_map}
use Rattle.ab_term.specs.Sameness.{same_number}
use Rattle.ab_unifiers.specs.Replacements.{Cell}
use Rattle.ab_unifiers.specs.Clauses.{Clause, Each, numbered, clause_variables, clause_names, put_together, name_term, filled, head_of, IsClause, AreFor}
use Rattle.ab_unifiers.proofs.Constants.{either, Has, has_support, support_has}
use Rattle.ab_term.proofs.Permuting.{Each as Placed, moved, moved_type, moved_each, moved_injective, OfOneType, rename_agrees}

-- a term none of whose constants is moved
pub unmoved : {Hint : Type 0} (f : Nominal → Nominal) (t : Term ℕ Hint) → ((a : Nominal) → Contains (support t) a → f a ≡ a) → rename f t ≡ t
unmoved f t m = rename_agrees f (λ a. a) t m ∙ rename-itself t

forget-rename : {Hint : Type 0} (m : Nominal → Nominal) (t : Term ℕ Hint) → forget (rename m t) ≡ rename m (forget t)
forget-rename m t = translate-rename (λ v. v) (λ h. tt) m t

-- a guess for a clause: the head becomes this tree, the body that
pub record Guess (sg : Signature) (Hint : Type 0) (x : Hint) (c : Clause Hint) (us : List (Term ℕ Hint)) (ns : List Nominal) (T B : Term ℕ Hint) : Type 0 where
  pub for : AreFor sg (clause_variables c) us
  pub hold : Each (λ k u. Has (λ a. ¬ (Contains ns a)) u) c.variables us
  pub types : map (λ a. a.type) ns ≡ map (λ z. z.type) c.names
  pub different : AllPairs (λ a b. a ≢ b) ns
  pub head : forget (image same_number (filled x c us ns) (head_of c)) ≡ forget T
  pub body : forget (image same_number (filled x c us ns) c.body) ≡ forget B

one_types : (ns ms : List Nominal) → OfOneType ns ms → map (λ a. a.type) ms ≡ map (λ a. a.type) ns
one_types [] [] e = refl
one_types [] (m ∷ ms) e = absurd e
one_types (n ∷ ns) [] e = absurd e
one_types (n ∷ ns) (m ∷ ms) e = ap (λ A. A ∷ map (λ a. a.type) ms) (sym e.0) ∙ ap (λ l. n.type ∷ l) (one_types ns ms e.1)

each_from : (f : Nominal → Nominal) (ns ms : List Nominal) → Placed (λ n m. f n ≡ m) ns ms → (m : Nominal) → Contains ms m → (n : Nominal) × Contains ns n × (f n ≡ m)
each_from f [] [] e m k = absurd (Contains-none m k)
each_from f [] (b ∷ ms) e m k = absurd e
each_from f (n ∷ ns) [] e m k = absurd e
each_from f (n ∷ ns) (b ∷ ms) e m k = either (λ q. (n, Contains-here n ns, e.0 ∙ q)) (λ i. let r = each_from f ns ms e.1 m i in (r.0, Contains-there n ns r.0 r.1, r.2)) (Contains-cases b ms m k)

module _ (sg : Signature) {Hint : Type 0} (x : Hint) (f : Nominal → Nominal) (keeps : (a : Nominal) → (f a).type ≡ a.type) where
  renamed_together : (ys : List (Variable ℕ)) (ts : List (Term ℕ Hint)) → renamed f (put_together ys ts) ≡ put_together ys (map (rename f) ts)
  renamed_together [] ts = refl
  renamed_together (y ∷ ys) [] = refl
  renamed_together (y ∷ ys) (t ∷ ts) = ap (λ l. (y, rename f t) ∷ l) (renamed_together ys ts)

  renamed_names : (ns ms : List Nominal) → Placed (λ n m. f n ≡ m) ns ms → map (rename f) (map (name_term x) ns) ≡ map (name_term x) ms
  renamed_names [] [] e = refl
  renamed_names [] (m ∷ ms) e = absurd e
  renamed_names (n ∷ ns) [] e = absurd e
  renamed_names (n ∷ ns) (m ∷ ms) e =
      let one : rename f (name_term x n) ≡ name_term x m = rename-expansion_of f x n.type (nominal n) no_terms ∙ ap (λ A. expansion x A (nominal (f n))) (sym (keeps n)) ∙ ap (name_term x) e.0 in
      ap (λ t. t ∷ map (rename f) (map (name_term x) ns)) one ∙ ap (λ l. name_term x m ∷ l) (renamed_names ns ms e.1)

  renamed_filled : (c : Clause Hint) (us : List (Term ℕ Hint)) (ns ms : List Nominal) → Placed (λ n m. f n ≡ m) ns ms → renamed f (filled x c us ns) ≡ filled x c (map (rename f) us) ms
  renamed_filled c us ns ms e =
      map-append (λ p. (p.0, rename f p.1)) (put_together (clause_variables c) us) (put_together (clause_names c) (map (name_term x) ns))
      ∙ ap (λ l. l ++ renamed f (put_together (clause_names c) (map (name_term x) ns))) (renamed_together (clause_variables c) us)
      ∙ ap (λ l. put_together (clause_variables c) (map (rename f) us) ++ l) (renamed_together (clause_names c) (map (name_term x) ns) ∙ ap (put_together (clause_names c)) (renamed_names ns ms e))

  -- a part of the clause, without constants, under the renamed guess
  pub renamed_part : (c : Clause Hint) (us : List (Term ℕ Hint)) (ns ms : List Nominal) → Placed (λ n m. f n ≡ m) ns ms → (t T : Term ℕ Hint) → support t ≡ [] → forget (image same_number (filled x c us ns) t) ≡ forget T
      → forget (image same_number (filled x c (map (rename f) us) ms) t) ≡ forget (rename f T)
  renamed_part c us ns ms e t T none h =
      ap (λ s. forget (image same_number s t)) (sym (renamed_filled c us ns ms e))
      ∙ ap (λ v. forget (image same_number (renamed f (filled x c us ns)) v)) (sym (unmoved f t (λ a k. absurd (Contains-none a (subst (λ l. Contains l a) none k)))))
      ∙ ap forget (sym (rename-image same_number f (filled x c us ns) t))
      ∙ forget-rename f (image same_number (filled x c us ns) t) ∙ ap (rename f) h ∙ sym (forget-rename f T)

  renamed_for : (n : ℕ) (cs : List (Cell Hint)) (us : List (Term ℕ Hint)) → AreFor sg (numbered n cs) us → AreFor sg (numbered n cs) (map (rename f) us)
  renamed_for n [] [] e = tt
  renamed_for n [] (u ∷ us) e = absurd e
  renamed_for n (c ∷ cs) [] e = absurd e
  renamed_for n (c ∷ cs) (u ∷ us) e = (rename_typed sg f keeps e.0, renamed_for (suc n) cs us e.1)

  -- constants that a renamed term holds come from its own
  pub renamed_has : (P Q : Nominal → Type 0) → ((b : Nominal) → P b → Q (f b)) → (t : Term ℕ Hint) → Has P t → Has Q (rename f t)
  renamed_has P Q w t h = support_has Q (rename f t) (λ a k. let r = Contains-from_map f (support t) a (subst (λ l. Contains l a) (support-rename f t) k) in subst Q r.2 (w r.0 (has_support P t h r.0 r.1)))

  renamed_each : (P Q : Nominal → Type 0) → ((b : Nominal) → P b → Q (f b)) → (cs : List (Cell Hint)) (us : List (Term ℕ Hint)) → Each (λ k u. Has P u) cs us → Each (λ k u. Has Q u) cs (map (rename f) us)
  renamed_each P Q w [] [] e = tt
  renamed_each P Q w [] (u ∷ us) e = absurd e
  renamed_each P Q w (c ∷ cs) [] e = absurd e
  renamed_each P Q w (c ∷ cs) (u ∷ us) e = (renamed_has P Q w u e.0, renamed_each P Q w cs us e.1)

-- THE SWAP: a guess with other constants, everywhere
module _ (sg : Signature) {Hint : Type 0} (x : Hint) where
  pub renamed_guess : (c : Clause Hint) → IsClause sg c → (us : List (Term ℕ Hint)) (ns ms : List Nominal) (T B : Term ℕ Hint) → Guess sg Hint x c us ns T B → OfOneType ns ms → AllPairs (λ a b. a ≢ b) ms
      → Guess sg Hint x c (map (rename (moved ns ms)) us) ms (rename (moved ns ms) T) (rename (moved ns ms) B)
  renamed_guess c well us ns ms T B g t d =
      let to : Placed (λ n m. moved ns ms n ≡ m) ns ms = moved_each ns ms t g.different d in
      let keeps = moved_type ns ms t in
      record {
        for = renamed_for sg x (moved ns ms) keeps 0 c.variables us g.for;
        hold = renamed_each sg x (moved ns ms) keeps (λ a. ¬ (Contains ns a)) (λ a. ¬ (Contains ms a)) (λ b n k. let r = each_from (moved ns ms) ns ms to (moved ns ms b) k in n (subst (Contains ns) (moved_injective ns ms r.0 b r.2) r.1)) c.variables us g.hold;
        types = one_types ns ms t ∙ g.types;
        different = d;
        head = renamed_part sg x (moved ns ms) keeps c us ns ms to (head_of c) T well.head_without_constants g.head;
        body = renamed_part sg x (moved ns ms) keeps c us ns ms to c.body B well.body_without_constants g.body;
      }

-- What a command outside a proof declares or asks for is one thing, and it is refused for one cause, and never both.
use Rattle.std.specs.Prelude.{Ok, Err}
use Rattle.std.proofs.Common.{◌≡◌, ℕ, List, [], map, Some, None, refl, sym, ◌∙◌, ap, subst}
use Rattle.ab_term.specs.Types.{prop}
use Rattle.ab_grammar.specs.Tree.{Tree}
use Rattle.ab_grammar.specs.CommandTrees.{Command, theorem, show}
use Rattle.ab_meaning.specs.ResolvedNames.{Resolved, bound, known, free, apply, behind, abs, equal, bind}
use Rattle.ab_meaning.specs.Scopes.{resolved}
use Rattle.ab_meaning.specs.Types.{IsDeclarable}
use Rattle.ab_term.specs.Terms.{Read}
use Rattle.ab_formulas.specs.Declarations.{Declarations, a_constant, theorem_in}
use Rattle.ab_infer.proofs.MeaningNames.{FreeAreNominal}
use Rattle.ab_meaning.proofs.Heads.{ResolvedHas}
use Rattle.ab_meaning.proofs.Standing.{IsDeclared}
use Rattle.ab_meaning.proofs.Resolving.{names_are_declared}
use Rattle.ab_determinism.proofs.OneReading.{means_or_not_in, one_meaning_in, one_cause_in}
use Rattle.ab_states.specs.ab_specification.specs.ab_declare.specs.declared.refusal.Refusal.{Refusal}
use Rattle.ab_states.specs.ab_specification.specs.ab_declare.specs.Refusals.{refusal_for}
use Rattle.ab_states.specs.ab_specification.specs.ab_declare.specs.DeclarationCommands.{scope_of, States, Declares, new_kinds, new_constants, new_predicates, Declines, kind_taken, constant_taken, type_unknown, type_unfit, defines_nothing, theorem_taken, states_nothing, no_theorem}
use Rattle.ab_determinism.proofs.Definitions.{one_defining, one_refusal, defines_or_not}

no_free : (e : Resolved) → ResolvedHas IsDeclared e → FreeAreNominal e
no_free (bound i) h = tt
no_free (known k A) h = tt
no_free (free x p) h = absurd h
no_free (apply d e) h = (no_free d h.0, no_free e h.1)
no_free (behind d e) h = (no_free d h.0, no_free e h.1)
no_free (abs x p e) h = no_free e h
no_free (equal d e) h = (no_free d h.0, no_free e h.1)
no_free (bind q x p w e) h = no_free e h

module _ (D : Declarations) where
  all_nominal : (e : Tree) (r : Resolved) → resolved (scope_of D) [] e ≡ Ok r → FreeAreNominal r
  all_nominal e r is = no_free r (names_are_declared (scope_of D) (record { variables = refl; place = refl }) e r is)

  pub one_statement : (e : Tree) (F G : Read) → States D e F → States D e G → F ≡ G
  one_statement e = one_meaning_in D (scope_of D) e prop (all_nominal e)

  -- IT DECLARES one thing

  pub one_declaring : {c : Command} {more others : Declarations} → Declares D c more → Declares D c others → more ≡ others
  one_declaring (new_kinds e) (new_kinds f) = refl
  one_declaring (new_constants {xs = xs} {A = A} e t d) (new_constants {A = B} f u g) =
      let both : Ok A ≡ Ok B = sym t ∙ u in
      let same : A ≡ B = cc in
      ap (λ C. map (λ x. a_constant x C) xs) same
  one_declaring {more = more} {others = others} (new_predicates {inductive = i} {ds = ds} {cs = cs} a) (new_predicates b) = one_defining D i ds cs more others a b

  -- IT IS REFUSED for one cause

  pub one_declining : {c : Command} {r q : Refusal} → Declines D c r → Declines D c q → r ≡ q
  one_declining (kind_taken {x = x} e) (kind_taken {x = y} f) = let both : Some x ≡ Some y = sym e ∙ f in cc
  one_declining (constant_taken {x = x} e) (constant_taken {x = y} f) = let both : Some x ≡ Some y = sym e ∙ f in cc
  one_declining (constant_taken {x = x} e) (type_unknown f u) = let bad : Some x ≡ None = sym e ∙ f in absurd (cc)
  one_declining (constant_taken {x = x} e) (type_unfit f u n) = let bad : Some x ≡ None = sym e ∙ f in absurd (cc)
  one_declining (type_unknown e t) (constant_taken {x = y} f) = let bad : Some y ≡ None = sym f ∙ e in absurd (cc)
  one_declining (type_unknown {x = x} e t) (type_unknown {x = y} f u) = let both : Err x ≡ Err y = sym t ∙ u in cc
  one_declining (type_unknown {x = x} e t) (type_unfit {A = B} f u n) = let bad : Err x ≡ Ok B = sym t ∙ u in absurd (cc)
  one_declining (type_unfit e t m) (constant_taken {x = y} f) = let bad : Some y ≡ None = sym f ∙ e in absurd (cc)
  one_declining (type_unfit {A = A} e t m) (type_unknown {x = y} f u) = let bad : Err y ≡ Ok A = sym u ∙ t in absurd (cc)
  one_declining (type_unfit e t m) (type_unfit f u n) = refl
  one_declining {r = r} {q = q} (defines_nothing {inductive = i} {ds = ds} {cs = cs} a) (defines_nothing b) = one_refusal D i ds cs r q a b
  one_declining (theorem_taken e) (theorem_taken f) = refl
  one_declining (theorem_taken {F = F} e) (states_nothing g f n) = let bad : Some F ≡ None = sym e ∙ f in absurd (cc)
  one_declining (states_nothing g e m) (theorem_taken {F = F} f) = let bad : Some F ≡ None = sym f ∙ e in absurd (cc)
  one_declining (states_nothing {e = d} g e m) (states_nothing h f n) = ap refusal_for (one_cause_in D (scope_of D) d prop (all_nominal d) g h m n)
  one_declining (no_theorem e) (no_theorem f) = refl

  -- AND NEVER BOTH

  pub declares_or_not : {c : Command} {more : Declarations} {r : Refusal} → Declares D c more → Declines D c r → ⊥
  declares_or_not (new_kinds e) (kind_taken {x = x} f) = let bad : Some x ≡ None = sym f ∙ e in cc
  declares_or_not (new_constants e t d) (constant_taken {x = x} f) = let bad : Some x ≡ None = sym f ∙ e in cc
  declares_or_not (new_constants {A = A} e t d) (type_unknown {x = x} f u) = let bad : Ok A ≡ Err x = sym t ∙ u in cc
  declares_or_not (new_constants {A = A} e t d) (type_unfit {A = B} f u n) =
      let both : Ok A ≡ Ok B = sym t ∙ u in
      let same : A ≡ B = cc in
      n (subst IsDeclarable same d)
  declares_or_not {more = more} {r = r} (new_predicates {inductive = i} {ds = ds} {cs = cs} a) (defines_nothing b) = defines_or_not D i ds cs more r a b

  pub states_or_not : {x : List ℕ} {e : Tree} {F : Read} {r : Refusal} → theorem_in D x ≡ None → States D e F → Declines D (theorem x e) r → ⊥
  states_or_not {F = F} none m (theorem_taken {F = G} f) = let bad : Some G ≡ None = sym f ∙ none in cc
  states_or_not {e = e} {F = F} none m (states_nothing g f n) = means_or_not_in D (scope_of D) e prop (all_nominal e) F g m n

  pub shows_or_not : {x : List ℕ} {F : Read} {r : Refusal} → theorem_in D x ≡ Some F → Declines D (show x) r → ⊥
  shows_or_not {F = F} e (no_theorem f) = let bad : Some F ≡ None = sym e ∙ f in cc

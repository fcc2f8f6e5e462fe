-- THE RULES OF A JUDGEMENT UNDER A GUESS: where the search isn't blind, each rule of what the judgement becomes comes of one of its own.
use Rattle.std.proofs.Common.{◌≡◌, ℕ, inl, inr, List, [], ◌∷◌, ◌++◌, map, Bool, true, false, cond, Option, Some, None, refl, sym, ◌∙◌, ap, subst}
use Rattle.std.specs.Prelude.{Contains, if◌then◌else◌}
use Rattle.std.specs.List.{list_any}
use Rattle.std.proofs.lemmas.Bool.{false≢true, false_from_ne_true}
use Rattle.std.proofs.lemmas.List.Elements.{Contains-append_left, Contains-append_right, Contains-append_cases}
use Rattle.ab_term.specs.Types.{o}
use Rattle.ab_term.specs.Terms.{Variable, Head, constant, logical, nominal, variable, index, Term, lam, spine, Terms, Read}
use Rattle.ab_term.specs.Typing.{Signature, HasType}
use Rattle.ab_term.specs.Translation.{forget, forget_all}
use Rattle.ab_term.specs.Variables.{put_at, image_all_by}
use Rattle.ab_term.proofs.ClosedMaps.{IsClosedMap}
use Rattle.ab_term.proofs.Lists.{Contains-none, Contains-here, Contains-cases, Contains-map, Contains-from_map}
use Rattle.ab_unifiers.specs.Replacements.{holds}
use Rattle.ab_unifiers.proofs.Following.{Put}
use Rattle.ab_formulas.specs.Declarations.{Declarations}
use Rattle.ab_formulas.specs.Programs.{Program, program_in}
use Rattle.ab_theory.specs.Judgements.{Judgement}
use Rattle.ab_theory.specs.Opening.{Kind, compound, atomic, undetermined, kind_of_head, kind_of, is_undetermined}
use Rattle.ab_theory.specs.Parts.{Part, parts_of}
use Rattle.ab_theory.specs.SpecRules.{SpecRule, by_clause, by_list, by_part, clauses_for, is_nil, list_rules, rules_unfocused, rules_in_focus, rules_for}
use Rattle.ab_search_trees.specs.Judgements.{hides_head, opens_by_layers, known, search_rules}
use Rattle.ab_search_trees.proofs.Forms.{Makes, begins_constant}
use Rattle.ab_search_completeness.proofs.Names.{head_bare, head_stays}
use Rattle.ab_search_completeness.proofs.Judged.{JudgementMade, FocusMade, FocusSeen, IsSeen}
use Rattle.ab_search_completeness.proofs.Parts.{PartMade, part_from, determined}

-- the second rule comes of the first
abbrev pub RuleMade : Put → Judgement → Judgement → SpecRule → SpecRule → Type 0
RuleMade f j k (by_clause c) (by_clause d) = c ≡ d
RuleMade f j k by_list by_list = Unit {0}
RuleMade f j k (by_part p) (by_part q) = (F : Read) × (H : Read) × (j.focus ≡ Some F) × (k.focus ≡ Some H) × Contains (parts_of F) p × Contains (parts_of H) q × PartMade f p q
RuleMade f j k _ _ = ⊥

pub record RuleFrom (f : Put) (D : Declarations) (j k : Judgement) (r : SpecRule) : Type 0 where
  pub rule : SpecRule
  pub listed : Contains (search_rules D j) rule
  pub comes : RuleMade f j k rule r

abbrev kind_at : {Hint : Type 0} → Term ℕ Hint → Kind
kind_at (lam A x t) = undetermined
kind_at (spine h ts) = kind_of_head h

kind_bare : (t : Read) → kind_at (forget t) ≡ kind_of t
kind_bare (lam A x t) = refl
kind_bare (spine h ts) = ap kind_of_head (head_bare h)

-- `nil` stays
nil_made : (f : Put) (L K : Read) → Makes f L K → is_nil L ≡ true → is_nil K ≡ true
nil_made f (lam A x t) K m e = absurd (false≢true e)
nil_made f (spine (logical l) ts) K m e = absurd (false≢true e)
nil_made f (spine (nominal a) ts) K m e = absurd (false≢true e)
nil_made f (spine (variable y) ts) K m e = absurd (false≢true e)
nil_made f (spine (index i) ts) K m e = absurd (false≢true e)
nil_made f (spine (constant c) ts) K m e = let b = begins_constant c (image_all_by f (forget_all ts)) K m in ap is_nil b.1 ∙ e

no_clauses : (cs : Program) (h : Head ℕ) (vs : Terms ℕ (Unit {0})) (A : Read) → spine h vs ≡ forget A → ((c : List ℕ) → h ≡ constant c → ⊥) → clauses_for A cs ≡ []
no_clauses cs h vs (lam B x t) e n = refl
no_clauses cs h vs (spine (logical l) ts) e n = refl
no_clauses cs h vs (spine (nominal a) ts) e n = refl
no_clauses cs h vs (spine (variable y) ts) e n = refl
no_clauses cs h vs (spine (index i) ts) e n = refl
no_clauses cs h vs (spine (constant c) ts) e n = let same : h ≡ constant c = cc in absurd (n c same)

-- a formula in focus is one of the specification logic
abbrev pub FocusTyped : Signature → Option Read → Type 0
FocusTyped sg None = Unit {0}
FocusTyped sg (Some F) = HasType sg [] F o

module _ (f : Put) (closed : IsClosedMap f) (ys : List (Variable ℕ)) (others : (y : Variable ℕ) → holds ys y ≡ false → f y ≡ None) where
  -- what is made of a term whose head may not be replaced has that head
  begins : (h : Head ℕ) (ts : Terms ℕ (List ℕ)) (A : Read) → hides_head ys (spine h ts) ≡ false → Makes f (spine h ts) A → spine h (image_all_by f (forget_all ts)) ≡ forget A
  begins h ts A e m = sym (ap (λ g. put_at f g (image_all_by f (forget_all ts))) (head_bare h) ∙ head_stays f closed ys others h (image_all_by f (forget_all ts)) e) ∙ m

  kind_made : (G H : Read) → hides_head ys G ≡ false → Makes f G H → kind_of H ≡ kind_of G
  kind_made (lam A x t) H e m = sym (kind_bare H) ∙ ap kind_at (sym m)
  kind_made (spine h ts) H e m = sym (kind_bare H) ∙ ap kind_at (sym (begins h ts H e m))

  clauses_made : (cs : Program) (G H : Read) → hides_head ys G ≡ false → Makes f G H → clauses_for H cs ≡ clauses_for G cs
  clauses_made cs (lam A x t) (lam B z u) e m = refl
  clauses_made cs (lam A x t) (spine h us) e m = absurd (cc)
  clauses_made cs (spine (constant c) ts) H e m = let b = begins_constant c (image_all_by f (forget_all ts)) H m in ap (λ t. clauses_for t cs) b.1
  clauses_made cs (spine (logical l) ts) H e m = no_clauses cs (logical l) (image_all_by f (forget_all ts)) H (begins (logical l) ts H e m) (λ c q. absurd (cc))
  clauses_made cs (spine (nominal a) ts) H e m = no_clauses cs (nominal a) (image_all_by f (forget_all ts)) H (begins (nominal a) ts H e m) (λ c q. absurd (cc))
  clauses_made cs (spine (variable y) ts) H e m = no_clauses cs (variable y) (image_all_by f (forget_all ts)) H (begins (variable y) ts H e m) (λ c q. absurd (cc))
  clauses_made cs (spine (index i) ts) H e m = no_clauses cs (index i) (image_all_by f (forget_all ts)) H (begins (index i) ts H e m) (λ c q. absurd (cc))

  in_list : (L : Read) (r : SpecRule) → Contains (list_rules L) r → (is_nil L ≡ false) × (r ≡ by_list)
  in_list L r m = go (is_nil L) refl m
    where
      go : (b : Bool) → is_nil L ≡ b → Contains (if b then [] else (by_list ∷ [])) r → (is_nil L ≡ false) × (r ≡ by_list)
      go true e m = absurd (Contains-none r m)
      go false e m = (e, elim (Contains-cases by_list [] r m) [ inl q ↦ sym q | inr n ↦ absurd (Contains-none r n) ])

  -- where the rules are known
  in_focus : (F H G K : Read) (sg : Signature) → HasType sg [] F o → HasType sg [] H o → Makes f F H → list_any (λ (p : Part). hides_head ys p.atom) (parts_of F) ≡ false → kind_of K ≡ kind_of G
      → (r : SpecRule) → Contains (known (rules_in_focus (parts_of H) (kind_of K))) r → (p q : Part) × (r ≡ by_part q) × Contains (known (rules_in_focus (parts_of F) (kind_of G))) (by_part p) × Contains (parts_of F) p × Contains (parts_of H) q × PartMade f p q
  in_focus F H G K sg F_typed H_typed made seen kinds r m = by_kind (kind_of K) refl m
    where
      Wanted : Type 0
      Wanted = (p q : Part) × (r ≡ by_part q) × Contains (known (rules_in_focus (parts_of F) (kind_of G))) (by_part p) × Contains (parts_of F) p × Contains (parts_of H) q × PartMade f p q

      by_parts : (k : Kind) → kind_of G ≡ k → ((ps : List Part) → rules_in_focus ps k ≡ (if list_any (λ (p : Part). is_undetermined (kind_of p.atom)) ps then None else Some (map by_part ps))) → (b : Bool)
          → list_any (λ (p : Part). is_undetermined (kind_of p.atom)) (parts_of H) ≡ b → Contains (known (if b then None else Some (map by_part (parts_of H)))) r → Wanted
      by_parts k e told true t m = absurd (Contains-none r m)
      by_parts k e told false t m =
          let q = Contains-from_map by_part (parts_of H) r m in
          let p = part_from f closed ys others sg F H F_typed H_typed made seen q.0 q.1 in
          let none = determined f closed ys others sg F H F_typed H_typed made seen t in
          let rules : rules_in_focus (parts_of F) (kind_of G) ≡ Some (map by_part (parts_of F)) = ap (rules_in_focus (parts_of F)) e ∙ told (parts_of F) ∙ ap (λ b. if b then None else Some (map by_part (parts_of F))) none in
          (p.0, q.0, sym q.2, subst (λ o. Contains (known o) (by_part p.0)) (sym rules) (Contains-map by_part (parts_of F) p.0 p.1), p.1, q.1, p.2)

      by_kind : (k : Kind) → kind_of K ≡ k → Contains (known (rules_in_focus (parts_of H) k)) r → Wanted
      by_kind undetermined e m = absurd (Contains-none r m)
      by_kind compound e m = by_parts compound (sym kinds ∙ e) (λ ps. refl) (list_any (λ (p : Part). is_undetermined (kind_of p.atom)) (parts_of H)) refl m
      by_kind atomic e m = by_parts atomic (sym kinds ∙ e) (λ ps. refl) (list_any (λ (p : Part). is_undetermined (kind_of p.atom)) (parts_of H)) refl m

  -- EACH RULE of what the judgement becomes
  pub rule_from : (D : Declarations) (sg : Signature) (j k : Judgement) → JudgementMade f j k → IsSeen ys j → FocusTyped sg j.focus → FocusTyped sg k.focus → (r : SpecRule) → Contains (search_rules D k) r → RuleFrom f D j k r
  rule_from D sg j k made seen F_typed H_typed r m = by_focus j.focus refl k.focus refl made.focus seen.0 F_typed H_typed m
    where
      kinds : kind_of k.goal ≡ kind_of j.goal
      kinds = kind_made j.goal k.goal seen.1 made.goal

      unfocused : j.focus ≡ None → (b : Kind) → kind_of j.goal ≡ b → Contains (cond (opens_by_layers None b) [] (known (rules_unfocused (program_in D) k.context k.goal b))) r → RuleFrom f D j k r
      unfocused p undetermined e m = absurd (Contains-none r m)
      unfocused p compound e m = absurd (Contains-none r m)
      unfocused p atomic e m =
          let mine : map by_clause (clauses_for j.goal (program_in D)) ++ list_rules j.context ≡ search_rules D j =
          sym (ap (λ o. cond (opens_by_layers o (kind_of j.goal)) [] (known (rules_for (program_in D) o j.context j.goal))) p
          ∙ ap (λ b. cond (opens_by_layers None b) [] (known (rules_unfocused (program_in D) j.context j.goal b))) e) in
          elim (Contains-append_cases (map by_clause (clauses_for k.goal (program_in D))) (list_rules k.context) r m) [
            | inl a ↦ (
                let c = Contains-from_map by_clause (clauses_for k.goal (program_in D)) r a in
                let there : Contains (clauses_for j.goal (program_in D)) c.0 = subst (λ l. Contains l c.0) (clauses_made (program_in D) j.goal k.goal seen.1 made.goal) c.1 in
                record {
                  rule = by_clause c.0;
                  listed = subst (λ l. Contains l (by_clause c.0)) mine (Contains-append_left (map by_clause (clauses_for j.goal (program_in D))) (list_rules j.context) (by_clause c.0) (Contains-map by_clause (clauses_for j.goal (program_in D)) c.0 there));
                  comes = subst (RuleMade f j k (by_clause c.0)) c.2 refl;
                })
            | inr b ↦ (
                let one = in_list k.context r b in
                let was : is_nil j.context ≡ false = false_from_ne_true (is_nil j.context) (λ e. false≢true (sym one.0 ∙ nil_made f j.context k.context made.context e)) in
                record {
                  rule = by_list;
                  listed = subst (λ l. Contains l by_list) mine (Contains-append_right (map by_clause (clauses_for j.goal (program_in D))) (list_rules j.context) by_list (subst (λ b. Contains (if b then [] else (by_list ∷ [])) by_list) (sym was) (Contains-here by_list [])));
                  comes = subst (RuleMade f j k by_list) (sym one.1) tt;
                })
          ]

      by_focus : (p : Option Read) → j.focus ≡ p → (q : Option Read) → k.focus ≡ q → FocusMade f p q → FocusSeen ys p → FocusTyped sg p → FocusTyped sg q
          → Contains (search_rules D k) r → RuleFrom f D j k r
      by_focus None p None q focus s F_typed H_typed m =
          unfocused p (kind_of j.goal) refl (subst (λ b. Contains (cond (opens_by_layers None b) [] (known (rules_unfocused (program_in D) k.context k.goal b))) r) kinds
          (subst (λ o. Contains (cond (opens_by_layers o (kind_of k.goal)) [] (known (rules_for (program_in D) o k.context k.goal))) r) q m))
      by_focus (Some F) p (Some H) q focus s F_typed H_typed m =
          let there : Contains (known (rules_in_focus (parts_of H) (kind_of k.goal))) r = subst (λ o. Contains (cond (opens_by_layers o (kind_of k.goal)) [] (known (rules_for (program_in D) o k.context k.goal))) r) q m in
          let found = in_focus F H j.goal k.goal sg F_typed H_typed focus s kinds r there in
          record {
            rule = by_part found.0;
            listed = subst (λ o. Contains (cond (opens_by_layers o (kind_of j.goal)) [] (known (rules_for (program_in D) o j.context j.goal))) (by_part found.0)) (sym p) found.3;
            comes = subst (RuleMade f j k (by_part found.0)) (sym found.2) (F, H, p, q, found.4, found.5, found.6);
          }
      by_focus None p (Some H) q focus s F_typed H_typed m = absurd focus
      by_focus (Some F) p None q focus s F_typed H_typed m = absurd focus

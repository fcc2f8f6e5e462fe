-- A FORMULA IN FOCUS UNDER A GUESS: where no atom of its parts has a head that may be replaced, the parts of what it becomes are what its parts become.
use Rattle.std.proofs.Common.{◌≡◌, ℕ, zero, suc, inl, inr, List, [], ◌∷◌, ◌++◌, map, length, Bool, true, false, None, refl, sym, ◌∙◌, ap, subst}
use Rattle.std.specs.List.{list_any}
use Rattle.std.specs.Prelude.{All, Contains}
use Rattle.std.proofs.lemmas.Bool.{or_parts, or_from}
use Rattle.std.proofs.lemmas.List.Elements.{All-head}
use Rattle.ab_term.specs.Types.{o}
use Rattle.ab_term.specs.Logical.{spec_universal, spec_implication, spec_conjunction}
use Rattle.ab_term.specs.Terms.{Variable, constant, logical, nominal, variable, index, Term, lam, spine, no_terms, term, Read}
use Rattle.ab_term.specs.Types.{Ty}
use Rattle.ab_term.specs.Typing.{Signature, HasType}
use Rattle.ab_term.specs.Reach.{raise}
use Rattle.ab_term.specs.Substitution.{shift}
use Rattle.ab_term.specs.Translation.{forget, forget_all}
use Rattle.ab_term.specs.Variables.{put_at, image_by, image_all_by}
use Rattle.ab_term.proofs.ClosedMaps.{IsClosedMap, raise-image}
use Rattle.ab_term.proofs.Lists.{Contains-none, Contains-here, Contains-there, Contains-cases, Contains-map, Contains-from_map, All-from_contains}
use Rattle.ab_term.proofs.Reaching.{raise-none, raise-more}
use Rattle.ab_term.proofs.Translations.{translate-shift}
use Rattle.ab_unifiers.specs.Replacements.{Cell, holds}
use Rattle.ab_unifiers.proofs.Following.{Put}
use Rattle.ab_unifiers.proofs.Ruling.{image_none}
use Rattle.ab_theory.specs.Opening.{kind_of_head, kind_of, is_undetermined}
use Rattle.ab_theory.specs.Parts.{Part, parts_of}
use Rattle.ab_search_trees.specs.Judgements.{hides_head}
use Rattle.ab_search_trees.proofs.Forms.{Makes}
use Rattle.ab_coverage.proofs.IndexedSpecClauses.{SpecClause, under_binder, with_goal, taken_apart}
use Rattle.ab_coverage.proofs.Conjoined.{two_typed, scope_typed}
use Rattle.ab_coverage.proofs.Demands.{part_clause, parts_same}
use Rattle.ab_coverage.proofs.Parts.{all_mapped, all_front, all_behind}
use Rattle.ab_search_completeness.proofs.Names.{head_bare, head_stays}
use Rattle.ab_search_completeness.proofs.Steady.{no_scope, no_second}

map-append : {X Y : Type 0} (f : X → Y) (xs ys : List X) → map f (xs ++ ys) ≡ map f xs ++ map f ys
map-append f [] ys = refl
map-append f (x ∷ xs) ys = ap (λ l. f x ∷ l) (map-append f xs ys)

raise_bare : (d k : ℕ) (t : Read) → forget (raise d k t) ≡ raise d k (forget t)
raise_bare zero k t = ap forget (raise-none t k) ∙ sym (raise-none (forget t) k)
raise_bare (suc d) k t =
    ap forget (raise-more t d k)
    ∙ translate-shift (λ v. v) (λ h. tt) (raise d k t) k
    ∙ ap (shift k) (raise_bare d k t)
    ∙ sym (raise-more (forget t) d k)

abbrev pub bare_cell : Cell (List ℕ) → Cell (Unit {0})
bare_cell b = record { hint = tt; type = b.type }

cells_length : (bs : List (Cell (List ℕ))) → length (map bare_cell bs) ≡ length bs
cells_length [] = refl
cells_length (b ∷ bs) = ap suc (cells_length bs)

-- WHAT A GUESS MAKES OF A CLAUSE, without hints
abbrev pub made_clause : Put → SpecClause (List ℕ) → SpecClause (Unit {0})
made_clause f c = record { binders = map bare_cell c.binders; goals = map (λ G. image_by f (forget G)) c.goals; atom = image_by f (forget c.atom) }

module _ (f : Put) (closed : IsClosedMap f) (ys : List (Variable ℕ)) (others : (y : Variable ℕ) → holds ys y ≡ false → f y ≡ None) where
  abbrev Seen : SpecClause (List ℕ) → Type 0
  Seen c = hides_head ys c.atom ≡ false

  names_made : (x : List ℕ) (A : Ty) (cs : List (SpecClause (List ℕ))) → map (under_binder tt A) (map (made_clause f) cs) ≡ map (made_clause f) (map (under_binder x A) cs)
  names_made x A [] = refl
  names_made x A (c ∷ cs) = ap (λ l. made_clause f (under_binder x A c) ∷ l) (names_made x A cs)

  goals_made : (G : Read) (cs : List (SpecClause (List ℕ))) → map (with_goal (image_by f (forget G))) (map (made_clause f) cs) ≡ map (made_clause f) (map (with_goal G) cs)
  goals_made G [] = refl
  goals_made G (c ∷ cs) =
      let up : raise (length (map bare_cell c.binders)) zero (image_by f (forget G)) ≡ image_by f (forget (raise (length c.binders) zero G)) =
      ap (λ n. raise n zero (image_by f (forget G))) (cells_length c.binders) ∙ raise-image f closed (forget G) (length c.binders) zero ∙ ap (image_by f) (sym (raise_bare (length c.binders) zero G)) in
      ap (λ H. record { binders = map bare_cell c.binders; goals = H ∷ map (λ K. image_by f (forget K)) c.goals; atom = image_by f (forget c.atom) } ∷ map (with_goal (image_by f (forget G))) (map (made_clause f) cs)) up
      ∙ ap (λ l. made_clause f (with_goal G c) ∷ l) (goals_made G cs)

  abbrev alone : Term ℕ (Unit {0}) → List (SpecClause (Unit {0}))
  alone t = record { binders = []; goals = []; atom = t } ∷ []

  pub apart_made : (sg : Signature) (G : List Ty) (F : Read) → HasType sg G F o → All Seen (taken_apart F) → taken_apart (image_by f (forget F)) ≡ map (made_clause f) (taken_apart F)
  apart_made sg G (spine (logical (spec_universal A)) (term (lam B x F) no_terms)) d a =
      ap (map (under_binder tt A)) (apart_made sg (A ∷ G) F (scope_typed sg A B x F d).1 (all_mapped Seen (under_binder x A) (taken_apart F) a)) ∙ names_made x A (taken_apart F)
  apart_made sg G (spine (logical spec_implication) (term E (term F no_terms))) d a =
      ap (map (with_goal (image_by f (forget E)))) (apart_made sg G F (two_typed sg spec_implication E F refl d).1 (all_mapped Seen (with_goal E) (taken_apart F) a)) ∙ goals_made E (taken_apart F)
  apart_made sg G (spine (logical spec_conjunction) (term E (term F no_terms))) d a =
      let two = two_typed sg spec_conjunction E F refl d in
      ap (λ l. l ++ taken_apart (image_by f (forget F))) (apart_made sg G E two.0 (all_front Seen (taken_apart E) (taken_apart F) a))
      ∙ ap (λ l. map (made_clause f) (taken_apart E) ++ l) (apart_made sg G F two.1 (all_behind Seen (taken_apart E) (taken_apart F) a))
      ∙ sym (map-append (made_clause f) (taken_apart E) (taken_apart F))
  apart_made sg G (spine (logical (spec_universal A)) (term (spine h ts) no_terms)) d a = absurd (no_scope d)
  apart_made sg G (spine (logical (spec_universal A)) (term t (term u us))) d a = absurd (no_second d)
  apart_made sg G (spine (variable y) ts) d a =
      let same = head_stays f closed ys others (variable y) (image_all_by f (forget_all ts)) (All-head Seen (record { binders = []; goals = []; atom = spine (variable y) ts }) [] a) in
      ap taken_apart same ∙ ap alone (sym same)
  apart_made sg G F d a = refl

-- no variable may be replaced
nothing_hidden : (t : Read) → hides_head [] t ≡ false
nothing_hidden (lam A x t) = refl
nothing_hidden (spine (constant c) ts) = refl
nothing_hidden (spine (logical l) ts) = refl
nothing_hidden (spine (nominal a) ts) = refl
nothing_hidden (spine (variable y) ts) = refl
nothing_hidden (spine (index i) ts) = refl

abbrev pub nothing : Put
nothing y = None

-- THE GUESS MAKES of the first part the second, past hints
abbrev pub PartMade : Put → Part → Part → Type 0
PartMade f p q = made_clause nothing (part_clause q) ≡ made_clause f (part_clause p)

any_not : {X : Type 0} (P : X → Bool) (xs : List X) → ((x : X) → Contains xs x → P x ≡ false) → list_any P xs ≡ false
any_not P [] g = refl
any_not P (x ∷ xs) g = or_from (P x) (list_any P xs) (g x (Contains-here x xs)) (any_not P xs (λ y m. g y (Contains-there x xs y m)))

each_not : {X : Type 0} (P : X → Bool) (xs : List X) → list_any P xs ≡ false → (x : X) → Contains xs x → P x ≡ false
each_not P [] e x m = absurd (Contains-none x m)
each_not P (y ∷ ys) e x m =
    let two = or_parts (P y) (list_any P ys) e in
    elim (Contains-cases y ys x m) [ inl q ↦ subst (λ z. P z ≡ false) q two.0 | inr n ↦ each_not P ys two.1 x n ]

-- the term's head isn't determined
abbrev is_open : {Hint : Type 0} → Term ℕ Hint → Bool
is_open (lam A x t) = true
is_open (spine h ts) = is_undetermined (kind_of_head h)

open_bare : (t : Read) → is_open (forget t) ≡ is_undetermined (kind_of t)
open_bare (lam A x t) = refl
open_bare (spine h ts) = ap (λ g. is_undetermined (kind_of_head g)) (head_bare h)

module _ (f : Put) (closed : IsClosedMap f) (ys : List (Variable ℕ)) (others : (y : Variable ℕ) → holds ys y ≡ false → f y ≡ None) (sg : Signature) (F H : Read) (F_typed : HasType sg [] F o) (H_typed : HasType sg [] H o)
    (makes : Makes f F H) (seen : list_any (λ (p : Part). hides_head ys p.atom) (parts_of F) ≡ false) where
  each_seen : All (λ (c : SpecClause (List ℕ)). hides_head ys c.atom ≡ false) (taken_apart F)
  each_seen = subst (All (λ (c : SpecClause (List ℕ)). hides_head ys c.atom ≡ false)) (sym (parts_same F))
      (All-from_contains (λ (c : SpecClause (List ℕ)). hides_head ys c.atom ≡ false) (map part_clause (parts_of F)) (λ c m.
      let p = Contains-from_map part_clause (parts_of F) c m in
      subst (λ (c : SpecClause (List ℕ)). hides_head ys c.atom ≡ false) p.2 (each_not (λ (p : Part). hides_head ys p.atom) (parts_of F) seen p.0 p.1)))

  clauses_made : map (made_clause nothing) (map part_clause (parts_of H)) ≡ map (made_clause f) (map part_clause (parts_of F))
  clauses_made =
      ap (map (made_clause nothing)) (sym (parts_same H))
      ∙ sym (apart_made nothing (λ y u e. absurd (let bad : None ≡ _ = e in cc)) [] (λ y e. refl) sg [] H H_typed (All-from_contains (λ (c : SpecClause (List ℕ)). hides_head [] c.atom ≡ false) (taken_apart H) (λ c m. nothing_hidden c.atom)))
      ∙ ap taken_apart (image_none (forget H) ∙ sym makes)
      ∙ apart_made f closed ys others sg [] F F_typed each_seen
      ∙ ap (map (made_clause f)) (parts_same F)

  -- each part of the second comes of one of the first
  pub part_from : (q : Part) → Contains (parts_of H) q → (p : Part) × Contains (parts_of F) p × PartMade f p q
  part_from q m =
      let there = subst (λ l. Contains l (made_clause nothing (part_clause q))) clauses_made (Contains-map (made_clause nothing) (map part_clause (parts_of H)) (part_clause q) (Contains-map part_clause (parts_of H) q m)) in
      let c = Contains-from_map (made_clause f) (map part_clause (parts_of F)) (made_clause nothing (part_clause q)) there in
      let p = Contains-from_map part_clause (parts_of F) c.0 c.1 in
      (p.0, p.1, sym (ap (made_clause f) p.2 ∙ c.2))

  part_to : (p : Part) → Contains (parts_of F) p → (q : Part) × Contains (parts_of H) q × PartMade f p q
  part_to p m =
      let there = subst (λ l. Contains l (made_clause f (part_clause p))) (sym clauses_made) (Contains-map (made_clause f) (map part_clause (parts_of F)) (part_clause p) (Contains-map part_clause (parts_of F) p m)) in
      let c = Contains-from_map (made_clause nothing) (map part_clause (parts_of H)) (made_clause f (part_clause p)) there in
      let q = Contains-from_map part_clause (parts_of H) c.0 c.1 in
      (q.0, q.1, ap (made_clause nothing) q.2 ∙ c.2)

  open_made : (t : Read) → hides_head ys t ≡ false → is_open (image_by f (forget t)) ≡ is_undetermined (kind_of t)
  open_made (lam A x t) e = refl
  open_made (spine h ts) e = ap is_open (ap (λ g. put_at f g (image_all_by f (forget_all ts))) (head_bare h) ∙ head_stays f closed ys others h (image_all_by f (forget_all ts)) e)

  -- where each atom of the second is determined, each of the first is
  pub determined : list_any (λ (p : Part). is_undetermined (kind_of p.atom)) (parts_of H) ≡ false → list_any (λ (p : Part). is_undetermined (kind_of p.atom)) (parts_of F) ≡ false
  determined e = any_not (λ (p : Part). is_undetermined (kind_of p.atom)) (parts_of F) (λ p m.
      let q = part_to p m in
      let atoms : image_by nothing (forget (q.0).atom) ≡ image_by f (forget p.atom) = ap (λ (c : SpecClause (Unit {0})). c.atom) q.2 in
      sym (open_made p.atom (each_not (λ (p : Part). hides_head ys p.atom) (parts_of F) seen p m))
      ∙ ap is_open (sym atoms ∙ image_none (forget (q.0).atom))
      ∙ open_bare (q.0).atom
      ∙ each_not (λ (p : Part). is_undetermined (kind_of p.atom)) (parts_of H) e q.0 q.1)

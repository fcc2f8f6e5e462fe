-- What is taken off a formula, its marks, and the formula without them, with other numbers.
use Rattle.std.specs.Prelude.{if◌then◌else◌, bytes_eq, not}
use Rattle.std.proofs.Common.{◌≡◌, ℕ, zero, suc, List, [], ◌∷◌, map, Bool, true, false, cond, Option, Some, None, option_map, refl, ◌∙◌, ap}
use Rattle.ab_term.specs.Types.{Ty}
use Rattle.ab_term.specs.Logical.{implication, universal, nabla}
use Rattle.ab_term.specs.Terms.{Head, constant, logical, nominal, variable, index, lam, spine, Terms, no_terms, term, Read}
use Rattle.ab_term.specs.Translation.{translate_head, translate_all}
use Rattle.ab_formulas.specs.Marks.{Sign, Making, Marks, by_head, by_scope, by_parts, by_mark, making_of, plain, marks_of_head, marked, marks_made, marks_of, marks_of_all, MarksServe, MarksServeIn, unmarked, erased, erased_all}
use Rattle.ab_unifiers.specs.Renumbering.{renumbered}
use Rattle.ab_theory.specs.Pieces.{Piece, universal_of, nabla_of, antecedent_of, pieces, behind, antecedent_count, type_named, Given, given_for, given_otherwise, Part, variable_for, given_term, constant_for, antecedent, part_for, parts, AllServe}

module _ (f : ℕ → ℕ) where
  abbrev pub T : Read → Read
  T = renumbered f

  abbrev Ts : Terms ℕ (List ℕ) → Terms ℕ (List ℕ)
  Ts = translate_all f (λ x. x)

  -- PIECES

  abbrev pub piece_moved : Piece → Piece
  piece_moved (universal_of x A) = universal_of x A
  piece_moved (nabla_of A) = nabla_of A
  piece_moved (antecedent_of F) = antecedent_of (T F)

  pub pieces_moved : (n : ℕ) (F : Read) → pieces n (T F) ≡ map piece_moved (pieces n F)
  pieces_moved n (spine (logical (universal A)) (term (lam B x t) no_terms)) = ap (λ l. universal_of x A ∷ l) (pieces_moved n t)
  pieces_moved n (spine (logical (nabla A)) (term (lam B x t) no_terms)) = ap (λ l. nabla_of A ∷ l) (pieces_moved n t)
  pieces_moved (suc zero) (spine (logical implication) (term A (term B no_terms))) = refl
  pieces_moved (suc (suc n)) (spine (logical implication) (term A (term B no_terms))) = ap (λ l. antecedent_of (T A) ∷ l) (pieces_moved (suc n) B)
  pieces_moved _ _ = refl

  pub behind_moved : (n : ℕ) (F : Read) → behind n (T F) ≡ T (behind n F)
  behind_moved n (spine (logical (universal A)) (term (lam B x t) no_terms)) = behind_moved n t
  behind_moved n (spine (logical (nabla A)) (term (lam B x t) no_terms)) = behind_moved n t
  behind_moved (suc zero) (spine (logical implication) (term A (term B no_terms))) = refl
  behind_moved (suc (suc n)) (spine (logical implication) (term A (term B no_terms))) = behind_moved (suc n) B
  behind_moved _ _ = refl

  pub antecedent_count_moved : (F : Read) → antecedent_count (T F) ≡ antecedent_count F
  antecedent_count_moved (spine (logical (universal A)) (term (lam B x t) no_terms)) = antecedent_count_moved t
  antecedent_count_moved (spine (logical (nabla A)) (term (lam B x t) no_terms)) = antecedent_count_moved t
  antecedent_count_moved (spine (logical implication) (term A (term B no_terms))) = ap suc (antecedent_count_moved B)
  antecedent_count_moved _ = refl

  pub type_named_moved : (x : List ℕ) (ps : List Piece) → type_named x (map piece_moved ps) ≡ type_named x ps
  type_named_moved x [] = refl
  type_named_moved x (universal_of y A ∷ ps) = ap (λ (o : Option Ty). if bytes_eq y x then Some A else o) (type_named_moved x ps)
  type_named_moved x (nabla_of A ∷ ps) = type_named_moved x ps
  type_named_moved x (antecedent_of F ∷ ps) = type_named_moved x ps

  -- TERMS THAT ARE GIVEN

  abbrev pub given_moved : Given → Given
  given_moved g = record { name = g.name; type = g.type; value = T g.value }

  given_for_moved : (x : List ℕ) (gs : List Given) → given_for x (map given_moved gs) ≡ option_map T (given_for x gs)
  given_for_moved x [] = refl
  given_for_moved x (g ∷ gs) = go (bytes_eq g.name x) (given_for_moved x gs)
    where
      go : (b : Bool) → given_for x (map given_moved gs) ≡ option_map T (given_for x gs) → (if b then Some (T g.value) else given_for x (map given_moved gs)) ≡ option_map T (if b then Some g.value else given_for x gs)
      go true e = refl
      go false e = e

  given_otherwise_moved : (x : List ℕ) (gs : List Given) → given_otherwise x (map given_moved gs) ≡ map given_moved (given_otherwise x gs)
  given_otherwise_moved x [] = refl
  given_otherwise_moved x (g ∷ gs) = go (not (bytes_eq g.name x)) (given_otherwise_moved x gs)
    where
      go : (b : Bool) → given_otherwise x (map given_moved gs) ≡ map given_moved (given_otherwise x gs)
          → cond b (given_moved g ∷ given_otherwise x (map given_moved gs)) (given_otherwise x (map given_moved gs)) ≡ map given_moved (cond b (g ∷ given_otherwise x gs) (given_otherwise x gs))
      go true e = ap (λ l. given_moved g ∷ l) e
      go false e = e

  -- WHAT BECOMES OF THE PIECES

  abbrev pub part_moved : Part → Part
  part_moved (variable_for x A) = variable_for x A
  part_moved (given_term t) = given_term (T t)
  part_moved (constant_for A) = constant_for A
  part_moved antecedent = antecedent

  part_for_moved : (x : List ℕ) (A : Ty) (o : Option Read) → part_for x A (option_map T o) ≡ part_moved (part_for x A o)
  part_for_moved x A None = refl
  part_for_moved x A (Some t) = refl

  pub parts_moved : (gs : List Given) (ps : List Piece) → parts (map given_moved gs) (map piece_moved ps) ≡ map part_moved (parts gs ps)
  parts_moved gs [] = refl
  parts_moved gs (universal_of x A ∷ ps) =
      ap (λ p. p ∷ parts (given_otherwise x (map given_moved gs)) (map piece_moved ps)) (ap (part_for x A) (given_for_moved x gs) ∙ part_for_moved x A (given_for x gs))
      ∙ ap (λ l. part_moved (part_for x A (given_for x gs)) ∷ l) (ap (λ hs. parts hs (map piece_moved ps)) (given_otherwise_moved x gs) ∙ parts_moved (given_otherwise x gs) ps)
  parts_moved gs (nabla_of A ∷ ps) = ap (λ l. constant_for A ∷ l) (parts_moved gs ps)
  parts_moved gs (antecedent_of F ∷ ps) = ap (λ l. antecedent ∷ l) (parts_moved gs ps)

  -- MARKS

  head_same : (m : Sign) (h : Head ℕ) → marks_of_head m (translate_head f h) ≡ marks_of_head m h
  head_same m (constant c) = refl
  head_same m (logical l) = refl
  head_same m (nominal a) = refl
  head_same m (variable x) = refl
  head_same m (index i) = refl

  marked_same : (m : Sign) (t : Read) → marked m (T t) ≡ marked m t
  marked_same m (lam A x t) = refl
  marked_same m (spine h ts) = head_same m h

  making_same : (h : Head ℕ) → making_of (translate_head f h) ≡ making_of h
  making_same (constant c) = refl
  making_same (logical l) = refl
  making_same (nominal a) = refl
  making_same (variable x) = refl
  making_same (index i) = refl

  made_same : (k : Making) (h : Head ℕ) (ts : Terms ℕ (List ℕ)) (ms : List Marks) → marks_made k (translate_head f h) (Ts ts) ms ≡ marks_made k h ts ms
  made_same by_head h ts ms = head_same plain h
  made_same (by_mark m) h no_terms ms = refl
  made_same (by_mark m) h (term t ts) ms = marked_same m t
  made_same by_scope h ts [] = refl
  made_same by_scope h ts (m ∷ []) = refl
  made_same by_scope h ts (m ∷ n ∷ ms) = refl
  made_same by_parts h ts [] = refl
  made_same by_parts h ts (m ∷ []) = refl
  made_same by_parts h ts (m ∷ n ∷ []) = refl
  made_same by_parts h ts (m ∷ n ∷ l ∷ ms) = refl

  mutual
    pub marks_same : (t : Read) → marks_of (T t) ≡ marks_of t
    marks_same (lam A x t) = marks_same t
    marks_same (spine h ts) =
        ap (λ k. marks_made k (translate_head f h) (Ts ts) (marks_of_all (Ts ts))) (making_same h)
        ∙ made_same (making_of h) h ts (marks_of_all (Ts ts))
        ∙ ap (marks_made (making_of h) h ts) (all_marks_same ts)

    all_marks_same : (ts : Terms ℕ (List ℕ)) → marks_of_all (Ts ts) ≡ marks_of_all ts
    all_marks_same no_terms = refl
    all_marks_same (term t ts) = ap (λ m. m ∷ marks_of_all (Ts ts)) (marks_same t) ∙ ap (λ l. marks_of t ∷ l) (all_marks_same ts)

  pub serves_same : (F G : Read) → MarksServeIn (T F) (T G) ≡ MarksServeIn F G
  serves_same F G = ap (λ m. MarksServe m (marks_of (T G))) (marks_same F) ∙ ap (MarksServe (marks_of F)) (marks_same G)

  pub all_serve_same : (ps : List Piece) (hs : List (Option Read)) → AllServe (map piece_moved ps) (map (option_map T) hs) ≡ AllServe ps hs
  all_serve_same [] hs = refl
  all_serve_same (universal_of x A ∷ ps) hs = all_serve_same ps hs
  all_serve_same (nabla_of A ∷ ps) hs = all_serve_same ps hs
  all_serve_same (antecedent_of F ∷ ps) [] = refl
  all_serve_same (antecedent_of F ∷ ps) (None ∷ hs) = all_serve_same ps hs
  all_serve_same (antecedent_of F ∷ ps) (Some G ∷ hs) =
      ap (λ P. P × AllServe (map piece_moved ps) (map (option_map T) hs)) (serves_same F G) ∙ ap (λ Q. MarksServeIn F G × Q) (all_serve_same ps hs)

  -- A FORMULA WITHOUT ITS MARKS

  unmarked_moved : (k : Making) (h : Head ℕ) (ts us : Terms ℕ (List ℕ)) → unmarked k (translate_head f h) (Ts ts) (Ts us) ≡ T (unmarked k h ts us)
  unmarked_moved by_head h ts us = refl
  unmarked_moved by_scope h ts us = refl
  unmarked_moved by_parts h ts us = refl
  unmarked_moved (by_mark m) h no_terms us = refl
  unmarked_moved (by_mark m) h (term t ts) us = refl

  mutual
    pub erased_moved : (t : Read) → erased (T t) ≡ T (erased t)
    erased_moved (lam A x t) = ap (lam A x) (erased_moved t)
    erased_moved (spine h ts) =
        ap (λ k. unmarked k (translate_head f h) (Ts ts) (erased_all (Ts ts))) (making_same h)
        ∙ ap (unmarked (making_of h) (translate_head f h) (Ts ts)) (all_erased_moved ts)
        ∙ unmarked_moved (making_of h) h ts (erased_all ts)

    all_erased_moved : (ts : Terms ℕ (List ℕ)) → erased_all (Ts ts) ≡ Ts (erased_all ts)
    all_erased_moved no_terms = refl
    all_erased_moved (term t ts) = ap (λ u. term u (erased_all (Ts ts))) (erased_moved t) ∙ ap (term (T (erased t))) (all_erased_moved ts)

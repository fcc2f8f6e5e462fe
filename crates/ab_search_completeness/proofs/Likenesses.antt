-- CLAUSES OF THE PROGRAM, which a guess leaves, and PARTS of a formula in focus that is firm, of which it makes others: the shapes stay.
use Rattle.std.proofs.Common.{◌≡◌, ℕ, suc, ◌<◌, List, [], ◌∷◌, ◌++◌, map, length, true, false, None, refl, sym, ◌∙◌, ap, subst}
use Rattle.std.specs.Prelude.{All, Contains}
use Rattle.std.proofs.lemmas.Bool.{and_from}
use Rattle.std.proofs.lemmas.List.Elements.{All-nil, All-cons, All-head, All-tail, Contains-append_left, Contains-append_right}
use Rattle.ab_term.specs.Logical.{spec_universal, spec_implication, spec_conjunction}
use Rattle.ab_term.specs.Terms.{Variable, logical, variable, lam, spine, no_terms, term, Read}
use Rattle.ab_term.specs.Typing.{Signature}
use Rattle.ab_term.specs.Names.{support}
use Rattle.ab_term.specs.Translation.{forget}
use Rattle.ab_term.specs.Variables.{variables, variables_of_all, image_by}
use Rattle.ab_term.proofs.ClosedMaps.{IsClosedMap}
use Rattle.ab_term.proofs.Depends.{image_rigid}
use Rattle.ab_term.proofs.Lists.{Contains-none, Contains-here}
use Rattle.ab_term.proofs.PastHints.{variables-forget}
use Rattle.ab_unifiers.specs.Replacements.{Cell, holds}
use Rattle.ab_unifiers.specs.Clauses.{Clause}
use Rattle.ab_unifiers.proofs.Following.{Put}
use Rattle.ab_unifiers.proofs.Ruling.{image_none}
use Rattle.ab_formulas.specs.Programs as programs
use Rattle.ab_theory.specs.Parts.{Part}
use Rattle.ab_coverage.proofs.IndexedSpecClauses.{SpecClause, in_goals_only, closed_in}
use Rattle.ab_coverage.proofs.IndexedInstances.{IsProgramClause}
use Rattle.ab_coverage.proofs.Demands.{clause_index, clause_right, part_clause}
use Rattle.ab_search_completeness.specs.Firm.{opens_firmly, StaysInGoals, PartIsFirm}
use Rattle.ab_search_completeness.proofs.Names.{bit_fewer, bit_same, fewer, fewer_same, bits_same}
use Rattle.ab_search_completeness.proofs.Shapes.{SameTypes, lengths_same, IsMade}
use Rattle.ab_search_completeness.proofs.Parts.{bare_cell, nothing, PartMade}

-- goals without variables open the same
closed_opens : (ys : List (Variable ℕ)) (G : Read) → ((y : Variable ℕ) → Contains (variables G) y → ⊥) → opens_firmly ys G ≡ true
closed_opens ys (spine (logical (spec_universal A)) (term (lam B x G) no_terms)) n = closed_opens ys G (λ y m. n y (Contains-append_left (variables G) [] y m))
closed_opens ys (spine (logical spec_implication) (term F (term G no_terms))) n = closed_opens ys G (λ y m. n y (Contains-append_right (variables F) (variables G ++ []) y (Contains-append_left (variables G) [] y m)))
closed_opens ys (spine (logical spec_conjunction) (term F (term G no_terms))) n =
    and_from (opens_firmly ys F) (opens_firmly ys G)
    (closed_opens ys F (λ y m. n y (Contains-append_left (variables F) (variables G ++ []) y m)))
    (closed_opens ys G (λ y m. n y (Contains-append_right (variables F) (variables G ++ []) y (Contains-append_left (variables G) [] y m))))
closed_opens ys (spine (variable z) ts) n = absurd (n z (Contains-here z (variables_of_all ts)))
closed_opens ys G n = refl

bits_length : (bs : List (Cell (List ℕ))) (Gs : List Read) (A : Read) → length (in_goals_only bs Gs A) ≡ length bs
bits_length [] Gs A = refl
bits_length (b ∷ bs) Gs A = ap suc (bits_length bs Gs A)

rigid : (f : Put) (t : Read) → variables t ≡ [] → image_by f (forget t) ≡ forget t
rigid f t e = image_rigid f (forget t) (variables-forget t ∙ e)

module _ (f : Put) (ys : List (Variable ℕ)) where
  goals_rigid : (Gs : List Read) → All (λ G. (variables G ≡ []) × (support G ≡ [])) Gs → map (λ G. image_by f (forget G)) Gs ≡ map forget Gs
  goals_rigid [] a = refl
  goals_rigid (G ∷ Gs) a =
      ap (λ t. t ∷ map (λ G. image_by f (forget G)) Gs) (rigid f G (All-head (λ G. (variables G ≡ []) × (support G ≡ [])) G Gs a).0)
      ∙ ap (λ l. forget G ∷ l) (goals_rigid Gs (All-tail (λ G. (variables G ≡ []) × (support G ≡ [])) G Gs a))

  goals_open : (Gs : List Read) → All (λ G. (variables G ≡ []) × (support G ≡ [])) Gs → All (λ G. opens_firmly ys G ≡ true) Gs
  goals_open [] a = All-nil (λ G. opens_firmly ys G ≡ true)
  goals_open (G ∷ Gs) a =
      All-cons (λ G. opens_firmly ys G ≡ true) G Gs (closed_opens ys G (λ y m. Contains-none y (subst (λ l. Contains l y) (All-head (λ G. (variables G ≡ []) × (support G ≡ [])) G Gs a).0 m)))
      (goals_open Gs (All-tail (λ G. (variables G ≡ []) × (support G ≡ [])) G Gs a))

  -- A CLAUSE OF THE PROGRAM stays
  pub clause_stays : (sg : Signature) (c : Clause (List ℕ)) → programs.IsProgramClause sg c → IsMade ys f (clause_index c) (clause_index c)
  clause_stays sg c w =
      let k : SpecClause (List ℕ) = clause_index c in
      let right : IsProgramClause sg k = clause_right sg c w in
      record {
        alike = record { types = refl; closes = fewer_same (closed_in k) k.binders k.goals k.atom (bits_length k.binders k.goals k.atom) };
        atom = rigid f k.atom right.atom_closed.0;
        goals = goals_rigid k.goals right.goals_closed;
        opens = goals_open k.goals right.goals_closed;
      }

  types_from : (bs cs : List (Cell (List ℕ))) → map bare_cell bs ≡ map bare_cell cs → SameTypes bs cs
  types_from [] [] e = refl
  types_from [] (c ∷ cs) e = absurd (cc)
  types_from (b ∷ bs) [] e = absurd (cc)
  types_from (b ∷ bs) (c ∷ cs) e =
      let first : bare_cell b ≡ bare_cell c = cc in
      let rest : map bare_cell bs ≡ map bare_cell cs = cc in
      ap (λ A. A ∷ map (λ b. b.type) bs) (ap (λ (k : Cell (Unit {0})). k.type) first) ∙ ap (λ l. c.type ∷ l) (types_from bs cs rest)

  goals_bare : (Gs : List Read) → map (λ G. image_by nothing (forget G)) Gs ≡ map forget Gs
  goals_bare [] = refl
  goals_bare (G ∷ Gs) = ap (λ t. t ∷ map (λ G. image_by nothing (forget G)) Gs) (image_none (forget G)) ∙ ap (λ l. forget G ∷ l) (goals_bare Gs)

  -- A PART THAT IS FIRM becomes one of the same shape
  pub part_becomes : IsClosedMap f → ((y : Variable ℕ) → holds ys y ≡ false → f y ≡ None) → (p q : Part) → PartMade f p q → PartIsFirm ys p → IsMade ys f (part_clause p) (part_clause q)
  part_becomes closed others p q made firm =
      let types : SameTypes q.names p.names = types_from q.names p.names (ap (λ (c : SpecClause (Unit {0})). c.binders) made) in
      let atoms : image_by f (forget p.atom) ≡ forget q.atom = sym (ap (λ (c : SpecClause (Unit {0})). c.atom) made) ∙ image_none (forget q.atom) in
      let goals : map (λ G. image_by f (forget G)) p.goals ≡ map forget q.goals = sym (ap (λ (c : SpecClause (Unit {0})). c.goals) made) ∙ goals_bare q.goals in
      record {
        alike = record {
          types = types;
          closes = fewer q.names p.names p.goals p.atom q.goals q.atom (lengths_same q.names p.names types)
              (λ k l. bit_fewer f closed ys others k p.atom q.atom p.goals q.goals atoms goals (firm.names k l));
        };
        atom = atoms;
        goals = goals;
        opens = firm.goals;
      }

  -- and where it keeps its names, the same of them are closed
  pub names_kept : IsClosedMap f → ((y : Variable ℕ) → holds ys y ≡ false → f y ≡ None) → (p q : Part) → PartMade f p q → PartIsFirm ys p → ((k : ℕ) → k < length p.names → StaysInGoals ys p k) → closed_in (part_clause q) ≡ closed_in (part_clause p)
  names_kept closed others p q made firm keeps =
      let types : SameTypes q.names p.names = types_from q.names p.names (ap (λ (c : SpecClause (Unit {0})). c.binders) made) in
      let atoms : image_by f (forget p.atom) ≡ forget q.atom = sym (ap (λ (c : SpecClause (Unit {0})). c.atom) made) ∙ image_none (forget q.atom) in
      let goals : map (λ G. image_by f (forget G)) p.goals ≡ map forget q.goals = sym (ap (λ (c : SpecClause (Unit {0})). c.goals) made) ∙ goals_bare q.goals in
      bits_same q.names p.names q.goals q.atom p.goals p.atom (lengths_same q.names p.names types)
      (λ k l. bit_same f closed ys others k p.atom q.atom p.goals q.goals atoms goals (firm.names k l) (keeps k l))

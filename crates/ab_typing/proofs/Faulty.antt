-- The first fault of a list of clauses, found at a place.
use Rattle.std.proofs.Common.{◌≡◌, ◌↔◌, ℕ, zero, suc, ◌+◌, ◌<◌, ◌≤◌, List, [], ◌∷◌, map, take, length, get_or, Some, None, arith, refl, sym, ap, ◌∙◌, subst}
use Rattle.std.specs.List.{All}
use Rattle.std.proofs.lemmas.List.{length-map}
use Rattle.std.proofs.lemmas.List.Elements.{All-head, All-tail, All-more}
use Rattle.ab_store.specs.ab_types.specs.Entries.{Table}
use Rattle.ab_store.specs.ab_types.specs.declared.ids.ConstId.{ConstId}
use Rattle.ab_store.specs.Trees.{Contents}
use Rattle.ab_formulas.specs.Clauses.{Clause}
use Rattle.ab_formulas.specs.Faults.{Fault, IsRight, HasFault, FirstFault, here, later, IsRightBlock, IsFaultOf}
use Rattle.ab_typing.specs.DefinitionReadings.{name_of, clause_of, block_of}
use Rattle.ab_typing.specs.declared.definitions.ClauseTerm.{ClauseTerm}
use Rattle.ab_typing.specs.declared.definitions.Block.{Block}
use Rattle.ab_typing.specs.declared.faults.ClauseFault.{ClauseFault}
use Rattle.ab_formulas.proofs.Single.{no_fault}
use Rattle.ab_formulas.proofs.ClausesWalks.{all_so_far}

pub fault_at : (ps : List (List ℕ)) (n : ℕ) (cs : List Clause) (i : ℕ) (d : Clause) (f : Fault) → i < length cs → All (IsRight ps) (take i cs)
    → HasFault ps (i + n) (get_or cs i d) f → FirstFault ps n cs f
fault_at ps n [] i d f l right fault = absurd (omega (arith, l))
fault_at ps n (c ∷ cs) zero d f l right fault =
    let same : 0 + n ≡ n = omega arith in
    here (subst (λ k. HasFault ps k c f) same fault)
fault_at ps n (c ∷ cs) (suc i) d f l right fault =
    let same : suc i + n ≡ i + suc n = omega arith in
    later (All-head (IsRight ps) c (take i cs) right)
    (fault_at ps (suc n) cs i d f (omega (arith, l)) (All-tail (IsRight ps) c (take i cs) right) (subst (λ k. HasFault ps k (get_or cs i d) f) same fault))

-- the same of a block on ids

got : {X Y : Type 0} (f : X → Y) (xs : List X) (i : ℕ) (d : X) → i < length xs → get_or (map f xs) i (f d) ≡ f (get_or xs i d)
got f [] i d l = absurd (omega (arith, l))
got f (x ∷ xs) zero d l = refl
got f (x ∷ xs) (suc i) d l = got f xs i d (omega (arith, l))

module _ (types : Table) (store : Contents) (b : Block) (ps : List ConstId) (cs : List ClauseTerm) (same_ps : ps ≡ b.predicates) (same_cs : cs ≡ b.clauses) where
  abbrev names : List (List ℕ)
  names = map (name_of types) ps

  abbrev read : ClauseTerm → Clause
  read = clause_of types store

  same_fault : (f : Fault) → FirstFault names 1 (map read cs) f → IsFaultOf (block_of types store b) f
  same_fault f h = subst (λ xs. FirstFault (map (name_of types) b.predicates) 1 (map read xs) f) same_cs (subst (λ qs. FirstFault (map (name_of types) qs) 1 (map read cs) f) same_ps h)

  module _ (i : ℕ) (c : ClauseTerm) (l : i < length cs) (is : c ≡ get_or cs i c) (right : All (IsRight names) (take i (map read cs))) where
    within : i < length (map read cs)
    within = let same : length (map read cs) ≡ length cs = length-map cs read in omega (arith, l, same)

    clause_is : get_or (map read cs) i (read c) ≡ read c
    clause_is = got read cs i c l ∙ ap read (sym is)

    pub one_fault : (f : Fault) → HasFault names (i + 1) (read c) f → IsFaultOf (block_of types store b) f
    one_fault f h = same_fault f (fault_at names 1 (map read cs) i (read c) f within right (subst (λ d. HasFault names (i + 1) d f) (sym clause_is) h))

    pub one_more : IsRight names (read c) → All (IsRight names) (take (i + 1) (map read cs))
    one_more h = All-more (IsRight names) (map read cs) i (read c) within right (subst (IsRight names) (sym clause_is) h)

  pub all_right : (i : ℕ) → length cs ≤ i → All (IsRight names) (take i (map read cs)) → IsRightBlock (block_of types store b)
  all_right i l h =
      let same : length (map read cs) ≡ length cs = length-map cs read in
      let all : All (IsRight names) (map read cs) = all_so_far (IsRight names) (map read cs) i (omega (arith, l, same)) h in
      subst (λ xs. All (IsRight (map (name_of types) b.predicates)) (map read xs)) same_cs (subst (λ qs. All (IsRight (map (name_of types) qs)) (map read cs)) same_ps all)

-- a block that has a fault isn't right
pub not_none : (types : Table) (store : Contents) (b : Block) (g : ClauseFault) (f : Fault) → IsFaultOf (block_of types store b) f
    → (Some g ≡ None) ↔ IsRightBlock (block_of types store b)
not_none types store b g f h = (λ e. absurd (cc), λ all. absurd (no_fault (map (name_of types) b.predicates) 1 (map (clause_of types store) b.clauses) f h all))

-- The rules that stand at places are those of the judgement.
use Rattle.std.specs.Prelude.{slice_get, filter, IsSome, if◌then◌else◌, bytes_eq}
use Rattle.std.specs.List.{All, list_any}
use Rattle.std.specs.Option.{option_map}
use Rattle.std.proofs.Common.{◌≡◌, ◌≢◌, ℕ, zero, suc, ◌<◌, List, [], ◌∷◌, ◌++◌, map, length, get_or, Bool, true, false, Option, Some, None, refl, sym, ◌∙◌, ap, arith}
use Rattle.std.proofs.lemmas.Bool.Decides.{Decides-eqb}
use Rattle.std.proofs.lemmas.List.{length-map}
use Rattle.std.proofs.lemmas.List.Elements.{All-head, All-tail}
use Rattle.ab_term.specs.Terms.{constant, logical, nominal, variable, index, lam, spine, Read}
use Rattle.ab_norm.specs.ab_types.specs.Ids.{HoldsConstant}
use Rattle.ab_norm.specs.ab_types.specs.Sound.{IsTable}
use Rattle.ab_norm.specs.ab_types.specs.declared.ids.ConstId.{ConstId}
use Rattle.ab_unifiers.specs.Clauses.{Clause}
use Rattle.ab_formulas.specs.CaseClauses.{case_of}
use Rattle.ab_formulas.specs.Clauses as kept
use Rattle.ab_formulas.specs.Programs.{Program, program_in}
use Rattle.ab_typing.specs.DefinitionReadings.{name_of, clause_of}
use Rattle.ab_typing.specs.declared.definitions.ClauseTerm.{ClauseTerm}
use Rattle.ab_logic.specs.Additions.{same_constant, clause_at_place, clauses_with, clauses_kept, clause_places}
use Rattle.ab_logic.specs.Worlds.{IsWorld, read, head_constant, clause_read, declarations_of, IsKept, IsHeadOf}
use Rattle.ab_logic.specs.declared.world.World.{World}
use Rattle.ab_logic.specs.declared.additions.Added.{Added}
use Rattle.ab_logic.specs.declared.additions.Addition.{Addition}
use Rattle.ab_logic.specs.declared.additions.Addition.TheVariants as added
use Rattle.ab_logic.proofs.Lookups.{headed_with, clauses_headed, places_lead}
use Rattle.ab_logic.proofs.Programs.{program_is}
use Rattle.ab_theory.specs.Opening.{Kind, compound, atomic, undetermined, kind_of, is_undetermined}
use Rattle.ab_theory.specs.Parts.{Part}
use Rattle.ab_theory.specs.SpecRules.{SpecRule, by_clause, by_list, by_part, clauses_for, is_nil, list_rules, rules_in_focus}
use Rattle.ab_alternatives.proofs.Placed.{same_by_name}
use Rattle.ab_judgements.specs.RuleWalks.{clauses_of, clause_there, list_slot, rules_in, rule_in}

-- CLAUSES FOR AN ATOM are those whose places are noted for its head

for_head : (A : Read) (q : List ℕ) → Some q ≡ head_constant A → (cs : Program) → clauses_for A cs ≡ filter (λ c. bytes_eq c.predicate q) cs
for_head (lam B x t) q e cs = absurd (cc)
for_head (spine (constant p) ts) q e cs = let same : p ≡ q = cc in ap (λ n. filter (λ (c : Clause (List ℕ)). bytes_eq c.predicate n) cs) same
for_head (spine (logical l) ts) q e cs = absurd (cc)
for_head (spine (nominal a) ts) q e cs = absurd (cc)
for_head (spine (variable y) ts) q e cs = absurd (cc)
for_head (spine (index i) ts) q e cs = absurd (cc)

headed_so : (vs : List kept.ClauseVariable) (h b : Read) (p : List ℕ) → Some p ≡ head_constant h → p ≡ (case_of (record { variables = vs; head = h; body = b })).predicate
headed_so vs (lam B x t) b p e = absurd (cc)
headed_so vs (spine (constant q) ts) b p e = let same : p ≡ q = cc in same
headed_so vs (spine (logical l) ts) b p e = absurd (cc)
headed_so vs (spine (nominal a) ts) b p e = absurd (cc)
headed_so vs (spine (variable y) ts) b p e = absurd (cc)
headed_so vs (spine (index i) ts) b p e = absurd (cc)

predicate_so : (w : World) (c : ClauseTerm) (p : List ℕ) → Some p ≡ head_constant (read w c.head) → p ≡ (clause_read w c).predicate
predicate_so w c p e = headed_so (clause_of w.types w.store c).variables (read w c.head) (read w c.body) p e

read_lead : {X Y : Type 0} (f : X → Y) (there : ℕ → Option X) (is : List ℕ) (ks : List X) → map there is ≡ map Some ks → map (λ i. option_map f (there i)) is ≡ map Some (map f ks)
read_lead f there [] [] e = refl
read_lead f there [] (k ∷ ks) e = absurd (cc)
read_lead f there (i ∷ is) [] e = absurd (cc)
read_lead f there (i ∷ is) (k ∷ ks) e =
    let here : there i ≡ Some k = cc in
    let rest : map there is ≡ map Some ks = cc in
    ap (λ o. option_map f o ∷ map (λ j. option_map f (there j)) is) here ∙ ap (λ l. Some (f k) ∷ l) (read_lead f there is ks rest)

module _ (w : World) where
  module _ (ok : IsTable w.types) (p : ConstId) (held : HoldsConstant w.types p) where
    abbrev is_headed : Clause (List ℕ) → Bool
    is_headed c = bytes_eq c.predicate (name_of w.types p)

    same_test : (c : ClauseTerm) (h : ConstId) → IsHeadOf w.types w.store c h → same_constant h p ≡ is_headed (clause_read w c)
    same_test c h head =
        same_by_name w.types ok h p head.held held (same_constant h p) (λ e. ap (λ n. record { 0 = n }) ((Decides-eqb h.0 p.0).0 e), λ e. (Decides-eqb h.0 p.0).1 (ap (λ q. q.0) e))
        ∙ ap (λ n. bytes_eq n (name_of w.types p)) (predicate_so w c (name_of w.types h) (sym head.is))

    headed_are : (xs : List Added) → All (λ (a : Added). IsKept w.types w.store a.what) xs → map (clause_read w) (clauses_headed xs p) ≡ filter is_headed (map (clause_read w) (clauses_kept xs))
    headed_are [] all = refl
    headed_are (a ∷ xs) all = one a.what (All-head (λ (b : Added). IsKept w.types w.store b.what) a xs all) (headed_are xs (All-tail (λ (b : Added). IsKept w.types w.store b.what) a xs all))
      where
        test : (c : ClauseTerm) (t u : Bool) → t ≡ u → map (clause_read w) (clauses_headed xs p) ≡ filter is_headed (map (clause_read w) (clauses_kept xs))
            → map (clause_read w) (if t then (c ∷ clauses_headed xs p) else (clauses_headed xs p))
            ≡ (if u then (clause_read w c ∷ filter is_headed (map (clause_read w) (clauses_kept xs))) else (filter is_headed (map (clause_read w) (clauses_kept xs))))
        test c true true e rest = ap (λ l. clause_read w c ∷ l) rest
        test c true false e rest = absurd (cc)
        test c false true e rest = absurd (cc)
        test c false false e rest = rest

        one : (what : Addition) → IsKept w.types w.store what → map (clause_read w) (clauses_headed xs p) ≡ filter is_headed (map (clause_read w) (clauses_kept xs))
            → map (clause_read w) (headed_with what p (clauses_headed xs p)) ≡ filter is_headed (map (clause_read w) (clauses_with what (clauses_kept xs)))
        one (added.Theorem e) k rest = rest
        one (added.Definition b) k rest = rest
        one (added.Clause c h) k rest = test c (same_constant h p) (is_headed (clause_read w c)) (same_test c h k.1) rest

    -- THE PLACES OF ITS HEAD lead to the clauses for an atom
    pub head_places : IsWorld w → (A : Read) → Some (name_of w.types p) ≡ head_constant A → map (clause_there w) (clause_places w.additions p) ≡ map Some (clauses_of w A)
    head_places is A e =
        read_lead (clause_read w) (clause_at_place w.additions) (clause_places w.additions p) (clauses_headed w.additions p) (places_lead w.additions p)
        ∙ ap (map Some) (headed_are w.additions is.additions ∙ ap (filter is_headed) (sym (program_is w 0 w.additions)) ∙ sym (for_head A (name_of w.types p) e (program_in (declarations_of w))))

-- the clause at the place of a number is the one of that number
pub numbered_place : {X : Type 0} (there : ℕ → Option X) (is : List ℕ) (cs : List X) → map there is ≡ map Some cs → (n place : ℕ) → n < length is → place ≡ get_or is n 0 → slice_get cs n ≡ there place
numbered_place there [] cs e n place low at = absurd (omega (arith, low))
numbered_place there (i ∷ is) [] e n place low at = absurd (cc)
numbered_place there (i ∷ is) (c ∷ cs) e zero place low at =
    let here : there i ≡ Some c = cc in
    sym here ∙ ap there (sym at)
numbered_place there (i ∷ is) (c ∷ cs) e (suc n) place low at =
    let rest : map there is ≡ map Some cs = cc in
    numbered_place there is cs rest n place (omega (arith, low)) at

pub as_many : {X : Type 0} (there : ℕ → Option X) (is : List ℕ) (cs : List X) → map there is ≡ map Some cs → length is ≡ length cs
as_many there is cs e = sym (length-map is there) ∙ ap (λ l. length l) e ∙ length-map cs Some

-- RULES AT PLACES, of which the last alone may have none

module _ {X : Type 0} (f : X → SpecRule) (y : Option SpecRule) where
  abbrev pub all_slots : List X → List (Option SpecRule)
  all_slots xs = map (λ x. Some (f x)) xs ++ y ∷ []

  at_other : (xs : List X) (place : ℕ) → place ≢ length xs → rule_in (all_slots xs) place ≡ option_map f (slice_get xs place)
  at_other [] zero e = absurd (e refl)
  at_other [] (suc k) e = refl
  at_other (x ∷ xs) zero e = refl
  at_other (x ∷ xs) (suc k) e = at_other xs k (λ h. e (ap suc h))

  -- the rule at a place is the one of that number
  pub numbered_rule : (xs : List X) (place : ℕ) → rule_in (all_slots xs) place ≡ slice_get (rules_in (all_slots xs)) place
  numbered_rule [] place = go y place
    where
      go : (o : Option SpecRule) (n : ℕ) → rule_in (o ∷ []) n ≡ slice_get (rules_in (o ∷ [])) n
      go None zero = refl
      go None (suc n) = refl
      go (Some r) zero = refl
      go (Some r) (suc n) = refl
  numbered_rule (x ∷ xs) zero = refl
  numbered_rule (x ∷ xs) (suc k) = numbered_rule xs k

  all_rules : (xs : List X) → rules_in (all_slots xs) ≡ map f xs ++ rules_in (y ∷ [])
  all_rules [] = refl
  all_rules (x ∷ xs) = ap (λ l. f x ∷ l) (all_rules xs)

-- the rules for an atom, and behind them that by the list
pub program_rules : (cs : Program) (L : Read) → rules_in (all_slots by_clause (list_slot L) cs) ≡ map by_clause cs ++ list_rules L
program_rules cs L = all_rules by_clause (list_slot L) cs ∙ ap (λ l. map by_clause cs ++ l) (go (is_nil L))
  where
    go : (b : Bool) → rules_in ((if b then None else Some by_list) ∷ []) ≡ (if b then [] else (by_list ∷ []))
    go true = refl
    go false = refl

-- what stands at the place of a number gives the rule of that number
pub at_number : (w : World) (A L : Read) (is : List ℕ) → map (clause_there w) is ≡ map Some (clauses_of w A) → (n place : ℕ) → n ≢ length is → n < length is → place ≡ get_or is n 0
    → (o : Option ClauseTerm) → o ≡ clause_at_place w.additions place → option_map (λ c. by_clause (clause_read w c)) o ≡ rule_in (all_slots by_clause (list_slot L) (clauses_of w A)) n
at_number w A L is lead n place other low at o there =
    both o
    ∙ ap (λ k. option_map by_clause (option_map (clause_read w) k)) there
    ∙ ap (option_map by_clause) (sym (numbered_place (clause_there w) is (clauses_of w A) lead n place low at))
    ∙ sym (at_other by_clause (list_slot L) (clauses_of w A) n (λ e. other (e ∙ sym (as_many (clause_there w) is (clauses_of w A) lead))))
  where
    both : (k : Option ClauseTerm) → option_map (λ c. by_clause (clause_read w c)) k ≡ option_map by_clause (option_map (clause_read w) k)
    both None = refl
    both (Some c) = refl

module _ {X : Type 0} (f : X → Part) where
  abbrev pub part_slots : List X → List (Option SpecRule)
  part_slots ps = all_slots (λ p. by_part (f p)) None ps

  pub part_rules : (ps : List X) → rules_in (part_slots ps) ≡ map by_part (map f ps)
  part_rules [] = refl
  part_rules (p ∷ ps) = ap (λ l. by_part (f p) ∷ l) (part_rules ps)

  pub at_part : (ps : List X) (place : ℕ) → rule_in (part_slots ps) place ≡ option_map (λ p. by_part (f p)) (slice_get ps place)
  at_part [] zero = refl
  at_part [] (suc k) = refl
  at_part (p ∷ ps) zero = refl
  at_part (p ∷ ps) (suc k) = at_part ps k

known : (b : Bool) (rs : List SpecRule) → IsSome (if b then None else Some rs) → (if b then None else Some rs) ≡ Some rs
known true rs h = absurd (cc)
known false rs h = refl

-- where rules are known of a judgement with a formula in focus, they are those by its parts
pub focus_rules : (ps : List Part) (k : Kind) → IsSome (rules_in_focus ps k) → rules_in_focus ps k ≡ Some (map by_part ps)
focus_rules ps undetermined h = absurd (cc)
focus_rules ps compound h = known (list_any (λ (p : Part). is_undetermined (kind_of p.atom)) ps) (map by_part ps) h
focus_rules ps atomic h = known (list_any (λ (p : Part). is_undetermined (kind_of p.atom)) ps) (map by_part ps) h

-- A rule that stands at a place is one for the judgement.
use Rattle.std.specs.Prelude.{Contains, slice_get, filter, bytes_eq, if◌then◌else◌}
use Rattle.std.specs.List.{All}
use Rattle.std.specs.Option.{option_and_then}
use Rattle.std.proofs.Common.{◌≡◌, ℕ, zero, suc, ◌<◌, List, [], ◌∷◌, map, length, get_or, Bool, true, false, Some, refl, sym, ◌∙◌, ap, subst}
use Rattle.std.proofs.lemmas.List.Elements.{All-head, All-tail, All-get_or, Contains-get_or}
use Rattle.std.proofs.lemmas.Slice.Eq.{bytes_eq-Decides}
use Rattle.ab_term.specs.Terms.{constant, logical, nominal, variable, index, lam, spine, Terms, Read}
use Rattle.ab_term.proofs.Lists.{Contains-map}
use Rattle.ab_norm.specs.ab_store.specs.declared.node.TermId.{TermId}
use Rattle.ab_norm.specs.ab_store.specs.Trees as store
use Rattle.ab_norm.specs.ab_store.specs.Trees.{tree_of}
use Rattle.ab_unifiers.specs.Clauses.{Clause}
use Rattle.ab_formulas.specs.Programs.{program_in}
use Rattle.ab_typing.specs.declared.definitions.ClauseTerm.{ClauseTerm}
use Rattle.ab_logic.specs.Additions.{as_clause}
use Rattle.ab_logic.specs.Worlds.{clause_read, read, declarations_of, IsKept, IsKeptProgramClause}
use Rattle.ab_logic.specs.declared.world.World.{World}
use Rattle.ab_logic.specs.declared.additions.Added.{Added}
use Rattle.ab_logic.specs.declared.additions.Addition.{Addition}
use Rattle.ab_logic.specs.declared.additions.Addition.TheVariants as added
use Rattle.ab_theory.specs.Parts as plain
use Rattle.ab_theory.specs.SpecRules.{clauses_for}
use Rattle.ab_judgements.specs.DemandReadings.{IsRuleFor}
use Rattle.ab_judgement_forms.specs.PartReadings.{name_read, part_read, HoldsName, HoldsPart}
use Rattle.ab_judgements.specs.RuleWalks.{clauses_of, AreParts}
use Rattle.ab_judgements.specs.declared.demands.Rule.TheVariants as rule
use Rattle.ab_judgement_forms.specs.declared.focus_parts.Part.{Part}
use Rattle.ab_judgement_forms.specs.declared.judgements.Judgement.{Judgement}
use Rattle.ab_judgement_forms.specs.declared.part_names.PartName.{PartName}

kept_passes : (q : Clause (List ℕ) → Bool) (cs : List (Clause (List ℕ))) (n : ℕ) (c : Clause (List ℕ)) → slice_get (filter q cs) n ≡ Some c → q c ≡ true
kept_passes q [] zero c e = absurd (cc)
kept_passes q [] (suc n) c e = absurd (cc)
kept_passes q (d ∷ cs) n c e = go (q d) refl n (λ m. kept_passes q cs m c) e
  where
    go : (b : Bool) → q d ≡ b → (m : ℕ) → ((k : ℕ) → slice_get (filter q cs) k ≡ Some c → q c ≡ true) → slice_get (if b then (d ∷ filter q cs) else (filter q cs)) m ≡ Some c → q c ≡ true
    go true t zero rest f = let same : d ≡ c = cc in ap q (sym same) ∙ t
    go true t (suc m) rest f = rest m f
    go false t m rest f = rest m f

none_in : (n : ℕ) (c : Clause (List ℕ)) {P : Type 0} → slice_get [] n ≡ Some c → P
none_in zero c e = absurd (cc)
none_in (suc n) c e = absurd (cc)

-- a clause for an atom has its head
for_headed : (A : Read) (cs : List (Clause (List ℕ))) (n : ℕ) (c : Clause (List ℕ)) → slice_get (clauses_for A cs) n ≡ Some c → (ts : Terms ℕ (List ℕ)) × (A ≡ spine (constant c.predicate) ts)
for_headed (lam B x t) cs n c e = none_in n c e
for_headed (spine (constant p) ts) cs n c e = (ts, ap (λ q. spine (constant q) ts) (sym ((bytes_eq-Decides c.predicate p).0 (kept_passes (λ d. bytes_eq d.predicate p) cs n c e))))
for_headed (spine (logical l) ts) cs n c e = none_in n c e
for_headed (spine (nominal a) ts) cs n c e = none_in n c e
for_headed (spine (variable y) ts) cs n c e = none_in n c e
for_headed (spine (index i) ts) cs n c e = none_in n c e

module _ (w : World) where
  -- a clause of the program is well kept
  pub kept_clause : (xs : List Added) → All (λ (a : Added). IsKept w.types w.store a.what) xs → (place : ℕ) (c : ClauseTerm) → option_and_then (λ (a : Added). as_clause a.what) (slice_get xs place) ≡ Some c → IsKeptProgramClause w.types w.store c
  kept_clause [] all zero c e = absurd (cc)
  kept_clause [] all (suc k) c e = absurd (cc)
  kept_clause (a ∷ xs) all (suc k) c e = kept_clause xs (All-tail (λ (b : Added). IsKept w.types w.store b.what) a xs all) k c e
  kept_clause (a ∷ xs) all zero c e = go a.what (All-head (λ (b : Added). IsKept w.types w.store b.what) a xs all) e
    where
      go : (what : Addition) → IsKept w.types w.store what → as_clause what ≡ Some c → IsKeptProgramClause w.types w.store c
      go (added.Theorem t) h f = absurd (cc)
      go (added.Definition b) h f = absurd (cc)
      go (added.Clause d p) h f = let same : d ≡ c = cc in subst (IsKeptProgramClause w.types w.store) same h.0

  pub clause_fits : (j : Judgement) (c : ClauseTerm) (n : ℕ) → IsKeptProgramClause w.types w.store c → slice_get (clauses_of w (read w j.goal)) n ≡ Some (clause_read w c) → IsRuleFor w j (rule.Clause c)
  clause_fits j c n kept e = let headed = for_headed (read w j.goal) (program_in (declarations_of w)) n (clause_read w c) e in (kept, headed.0, headed.1)

  pub part_fits : (j : Judgement) (ps : List Part) → AreParts w j ps → (place : ℕ) → place < length ps → (q p : Part) → q ≡ get_or ps place q → p.names.items ≡ q.names.items → p.goals.items ≡ q.goals.items → p.atom ≡ q.atom → IsRuleFor w j (rule.Part p)
  part_fits j ps are place low q p is names goals atom =
      let T = w.types in
      let S = w.store in
      let held : HoldsPart T S q = subst (HoldsPart T S) (sym is) (All-get_or (HoldsPart T S) ps place q low are.0) in
      let there : Contains ps q = subst (Contains ps) (sym is) (Contains-get_or ps place q low) in
      let reads : part_read T S p ≡ part_read T S q =
      ap (λ (ns : List PartName). record { names = map (name_read T) ns; goals = map (tree_of T S) p.goals.items; atom = tree_of T S p.atom }) names
      ∙ ap (λ (gs : List TermId). record { names = map (name_read T) q.names.items; goals = map (tree_of T S) gs; atom = tree_of T S p.atom }) goals
      ∙ ap (λ (t : TermId). record { names = map (name_read T) q.names.items; goals = map (tree_of T S) q.goals.items; atom = tree_of T S t }) atom in
      let listed : Contains (plain.parts_of are.1) (part_read T S q) = subst (λ l. Contains l (part_read T S q)) are.3 (Contains-map (part_read T S) ps q there) in (
        record { names = subst (All (HoldsName T)) (sym names) held.names; goals = subst (All (store.Holds S)) (sym goals) held.goals; atom = subst (store.Holds S) (sym atom) held.atom },
        are.1,
        are.2,
        subst (Contains (plain.parts_of are.1)) (sym reads) listed,
      )

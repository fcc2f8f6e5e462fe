-- A formula of a goal in which nominal constants change places.
use Rattle.std.specs.Prelude.{All, Contains, if◌then◌else◌, ◌==◌, ◌||◌}
use Rattle.std.specs.List.{list_any}
use Rattle.std.specs.Cmp.{unsigned_Decides}
use Rattle.std.proofs.Common.{◌≡◌, ◌≢◌, ◌⊎◌, inl, inr, ℕ, Bool, true, false, List, [], ◌∷◌, ◌++◌, map, Some, None, refl, sym, ◌∙◌, ap, subst}
use Rattle.std.proofs.lemmas.List.Elements.{All-contains, Contains-append_left, Contains-append_right, Contains-append_cases}
use Rattle.ab_term.specs.Types.{Ty}
use Rattle.ab_term.specs.Terms.{Nominal, Read}
use Rattle.ab_term.specs.Names.{support, rename, moved_by, permute, IsPermutationTable, EqualUpToNames}
use Rattle.ab_term.specs.Translation.{forget}
use Rattle.ab_term.specs.Variables.{variables}
use Rattle.ab_term.proofs.Lists.{Contains-none, Contains-here, Contains-there, Contains-cases, Contains-from_map, Contains-map, contains_or_not}
use Rattle.ab_term.proofs.Permutations.{Table, froms, moved_by-absent, moved_by-present, one_to_one}
use Rattle.ab_term.proofs.Comparisons.{same_nominal-Decides}
use Rattle.ab_term.specs.Names.{same_nominal}
use Rattle.ab_term.proofs.UpToNames.{up_to_names-symmetric}
use Rattle.ab_term.proofs.Renamings.{support-rename, rename_typed}
use Rattle.ab_formulas.specs.Cycles.{constant_at, onward, cycle, StandsAt, MayCycle, type_among}
use Rattle.ab_formulas.proofs.Tables.{cycle_permutes}
use Rattle.ab_formulas.specs.Declarations.{Declarations, signature_in}
use Rattle.ab_formulas.specs.Formulas.{a_formula, IsFormula}
use Rattle.ab_formulas.specs.Marks.{erased, marks_of}
use Rattle.ab_formulas.specs.Sequents.{Sequent, IsSequent, HoldsOnly, in_terms, formulas_of, goal_names, names_of}
use Rattle.ab_search_trees.proofs.Unmarked.{variables_rename}
use Rattle.ab_search_proofs.proofs.Renamed.{marks_of-rename, rename-erased, rename_stands}
use Rattle.ab_consequences.specs.Standing.{StandsFor}

-- where the cycle sends its constants: to one of the numbers, at the type
abbrev IsNumbered : List ℕ → Ty → Nominal → Type 0
IsNumbered ns A b = (n : ℕ) × Contains ns n × (b ≡ constant_at A n)

to_some : (A : Ty) (first n : ℕ) (ns : List ℕ) (r : Nominal × Nominal) → Contains (onward A first n ns) r → IsNumbered (first ∷ ns) A r.1
to_some A first n [] r c =
    elim (Contains-cases (constant_at A n, constant_at A first) [] r c) [
      | inl e ↦ (first, Contains-here first [], sym (ap (λ q. q.1) e))
      | inr none ↦ absurd (Contains-none r none)
    ]
to_some A first n (m ∷ ms) r c =
    elim (Contains-cases (constant_at A n, constant_at A m) (onward A first m ms) r c) [
      | inl e ↦ (m, Contains-there first (m ∷ ms) m (Contains-here m ms), sym (ap (λ q. q.1) e))
      | inr more ↦
          let rest = to_some A first m ms r more in
          elim (Contains-cases first ms rest.0 rest.1) [
            | inl e ↦ (rest.0, subst (Contains (first ∷ m ∷ ms)) e (Contains-here first (m ∷ ms)), rest.2)
            | inr d ↦ (rest.0, Contains-there first (m ∷ ms) rest.0 (Contains-there m ms rest.0 d), rest.2)
          ]
    ]

sent : (A : Ty) (ns : List ℕ) (r : Nominal × Nominal) → Contains (cycle A ns) r → IsNumbered ns A r.1
sent A [] r c = absurd (Contains-none r c)
sent A (n ∷ ns) r c = to_some A n n ns r c

any_number : (n : ℕ) (ns : List ℕ) → list_any (λ m. n == m) ns ≡ true → Contains ns n
any_number n [] e = let clash : false ≡ true = e in cc
any_number n (m ∷ ns) e = go (any_number n ns) (n == m) refl
  where
    go : (list_any (λ k. n == k) ns ≡ true → Contains ns n) → (b : Bool) → (n == m) ≡ b → Contains (m ∷ ns) n
    go later true t = subst (Contains (m ∷ ns)) (sym ((unsigned_Decides n m).0 t)) (Contains-here m ns)
    go later false t =
        let rest : list_any (λ k. n == k) ns ≡ true = sym (ap (λ b. b || list_any (λ k. n == k) ns) t) ∙ e in
        Contains-there m ns n (later rest)

stands_there : (ns : List ℕ) (cs : List Nominal) (A : Ty) → type_among ns cs ≡ Some A → StandsAt ns cs A
stands_there ns [] A e = let clash : None ≡ Some A = e in cc
stands_there ns (c ∷ cs) A e = go (stands_there ns cs A) (list_any (λ n. c.number == n) ns) refl
  where
    go : (type_among ns cs ≡ Some A → StandsAt ns cs A) → (b : Bool) → list_any (λ n. c.number == n) ns ≡ b → StandsAt ns (c ∷ cs) A
    go later true t =
        let some : Some c.type ≡ Some A = sym (ap (λ b. if b then Some c.type else type_among ns cs) t) ∙ e in
        let is : c.type ≡ A = cc in
        (c.number, any_number c.number ns t, subst (λ B. Contains (c ∷ cs) (constant_at B c.number)) is (Contains-here c cs))
    go later false t =
        let rest = later (sym (ap (λ b. if b then Some c.type else type_among ns cs) t) ∙ e) in
        (rest.0, rest.1, Contains-there c cs (constant_at A rest.0) rest.2)

module _ (D : Declarations) (s : Sequent) (ns : List ℕ) (A : Ty) (is : IsSequent D s) (may : MayCycle ns (goal_names s)) (among : type_among ns (goal_names s) ≡ Some A)
    (F : Read) (here : Contains (formulas_of s) F) where
  ps : Table
  ps = cycle A ns

  table : IsPermutationTable (cycle A ns)
  table = cycle_permutes A ns may.different

  within : (fs : List Read) → Contains fs F → (a : Nominal) → Contains (support F) a → Contains (names_of fs) a
  within [] c a d = absurd (Contains-none F c)
  within (G ∷ fs) c a d =
      elim (Contains-cases G fs F c) [
        | inl e ↦ in_front a (subst (λ H. Contains (support H) a) (sym e) d)
        | inr more ↦ behind a (within fs more a d)
      ]
    where
      in_front : (b : Nominal) → Contains (support G) b → Contains (support G ++ names_of fs) b
      in_front b k = Contains-append_left (support G) (names_of fs) b k

      behind : (b : Nominal) → Contains (names_of fs) b → Contains (support G ++ names_of fs) b
      behind b k = Contains-append_right (support G) (names_of fs) b k

  -- a constant of the goal, or one of the numbers at the type
  place : (b : Nominal) → Contains (goal_names s) b ⊎ Contains (support (permute (cycle A ns) F)) b → Contains (goal_names s) b ⊎ IsNumbered ns A b
  place b (inl c) = inl c
  place b (inr c) =
      let from = Contains-from_map (moved_by (cycle A ns)) (support F) b (subst (λ l. Contains l b) (support-rename (moved_by (cycle A ns)) F) c) in
      moved from.0 (within (formulas_of s) here from.0 from.1) from.2
    where
      moved : (a : Nominal) → Contains (goal_names s) a → moved_by (cycle A ns) a ≡ b → Contains (goal_names s) b ⊎ IsNumbered ns A b
      moved a known e =
          elim (contains_or_not same_nominal same_nominal-Decides (froms (cycle A ns)) a) [
            | inl c ↦
                let r = Contains-from_map (λ (p : Nominal × Nominal). p.0) (cycle A ns) a c in
                let to : r.0.1 ≡ b = sym (moved_by-present (cycle A ns) table.from_distinct r.0 r.1) ∙ ap (moved_by (cycle A ns)) r.2 ∙ e in
                inr (subst (IsNumbered ns A) to (sent A ns r.0 r.1))
            | inr n ↦ inl (subst (Contains (goal_names s)) (sym (moved_by-absent (cycle A ns) a n) ∙ e) known)
          ]

  stands : StandsAt ns (goal_names s) A
  stands = stands_there ns (goal_names s) A among

  one : (a b : Nominal) → Contains (goal_names s) a ⊎ IsNumbered ns A a → Contains (goal_names s) b ⊎ IsNumbered ns A b → a.number ≡ b.number → a ≡ b
  one a b (inl c) (inl d) e = is.one_type a b c d e
  one a b (inl c) (inr (n, d, f)) e =
      let number : a.number ≡ n = e ∙ ap (λ (x : Nominal). x.number) f in
      let type : a.type ≡ A = may.one_type a.type A (a.number, subst (Contains ns) (sym number) d, c) stands in
      ap (λ (B : Ty). record { number = a.number; type = B }) type ∙ ap (λ (m : ℕ). constant_at A m) number ∙ sym f
  one a b (inr (n, c, f)) (inl d) e =
      let number : b.number ≡ n = sym e ∙ ap (λ (x : Nominal). x.number) f in
      let type : b.type ≡ A = may.one_type b.type A (b.number, subst (Contains ns) (sym number) c, d) stands in
      f ∙ ap (λ (m : ℕ). constant_at A m) (sym number) ∙ ap (λ (B : Ty). record { number = b.number; type = B }) (sym type)
  one a b (inr (n, c, f)) (inr (m, d, g)) e =
      let same : n ≡ m = sym (ap (λ (x : Nominal). x.number) f) ∙ e ∙ ap (λ (x : Nominal). x.number) g in
      f ∙ ap (constant_at A) same ∙ sym g

  split : (b : Nominal) → Contains (goal_names s ++ support (permute (cycle A ns) F)) b → Contains (goal_names s) b ⊎ IsNumbered ns A b
  split b c = place b (Contains-append_cases (goal_names s) (support (permute (cycle A ns) F)) b c)

  pub permuted_stands : StandsFor D s (permute (cycle A ns) F) F
  permuted_stands =
      let m = moved_by (cycle A ns) in
      let formula = All-contains (IsFormula (signature_in D)) (formulas_of s) F is.formulas here in
      let closed = All-contains (HoldsOnly s.variables) (formulas_of s) F is.closed here in
      let typed = rename_typed (signature_in D) m (one_to_one (cycle A ns) table).keeps formula.typed in
      record {
        fits = record {
          typed = typed;
          closed = subst (All (Contains (map in_terms s.variables))) (sym (variables_rename m F)) closed;
          one_type = λ a b c d e. one a b (split a c) (split b d) e;
        };
        formula = record { typed = typed; stands = rename_stands m a_formula F formula.stands };
        same = back;
        marks = marks_of-rename m F;
      }
    where
      back : EqualUpToNames (erased (permute (cycle A ns) F)) (erased F)
      back = up_to_names-symmetric (erased F) (erased (permute (cycle A ns) F)) (cycle A ns, table, ap forget (rename-erased (moved_by (cycle A ns)) F))

-- The clause that is built of a row is the one that is kept.
use Rattle.std.specs.Prelude.{Ok, not, Option, MatchOption}
use Rattle.std.proofs.Common.{◌≡◌, ℕ, ◌+◌, ◌<◌, Bool, List, [], ◌∷◌, map, length, get_or, refl, sym, ap, ◌∙◌, subst}
use Rattle.ab_term.specs.Types.{Ty, prop}
use Rattle.ab_term.specs.Terms.{Head, variable, spine, no_terms, term, Read}
use Rattle.ab_term.specs.Typing.{Signature}
use Rattle.ab_norm.specs.ab_types.specs.Entries.{Table, signature, IsExtendedBy}
use Rattle.ab_norm.specs.ab_types.specs.Ids.{type_of}
use Rattle.ab_norm.specs.ab_types.specs.declared.ids.TypeId.{TypeId}
use Rattle.ab_norm.specs.ab_store.specs.declared.node.CellId.{CellId}
use Rattle.ab_norm.specs.ab_store.specs.declared.node.TermId.{TermId}
use Rattle.ab_norm.specs.ab_store.specs.Trees.{Contents, cell_in, tree_of}
use Rattle.ab_norm.specs.ab_store.specs.Naming.{IsTypedBy}
use Rattle.ab_norm.specs.ab_store.specs.Growth.{IsExtendedBy as IsExtended}
use Rattle.ab_norm.specs.ab_store.specs.declared.node.CellEntry.{CellEntry}
use Rattle.ab_meaning.specs.ResolvedNames.{Name, Resolved}
use Rattle.ab_meaning.specs.Scopes.{Found}
use Rattle.ab_meaning.specs.Readings.{Making, Reads}
use Rattle.ab_meaning.specs.ReadingCounts as single
use Rattle.ab_meaning.specs.Normal.{normal_form}
use Rattle.ab_inference.specs.declared.assignments.Settled.{Settled}
use Rattle.ab_inference.specs.Assignments.{settled_at}
use Rattle.ab_inference.specs.Sketches.{Sketch, erase, count, term_of, Fit, marks_of}
use Rattle.ab_inference.specs.declared.op.Op.{Op}
use Rattle.ab_inference.specs.declared.op.Mark.{Mark}
use Rattle.ab_inference.specs.declared.decision.Verdict.{Verdict}
use Rattle.ab_inference.specs.Programs.{Runs, items_of}
use Rattle.ab_inference.specs.Verdicts.{types_found, AreApart, marks_in, IsVerdict}
use Rattle.ab_norm.specs.ab_store.specs.declared.node.Head.{Head as AHead}
use Rattle.ab_norm.specs.ab_store.specs.declared.node.Head.TheVariants.{Cell}
use Rattle.ab_infer.specs.NormalTerms.{IsBuilt, BecomeHeads}
use Rattle.ab_infer.proofs.Larger.{typed_more_steps, fits_more, items_more}
use Rattle.ab_infer.specs.declared.row.Row.{Row}
use Rattle.ab_infer.specs.Rows.{Makes}
use Rattle.ab_infer.specs.Occurrences.{free_names, with_names}
use Rattle.ab_formulas.specs.Clauses.{Clause}
use Rattle.ab_typing.specs.DefinitionReadings.{variable_of}
use Rattle.ab_declare.specs.KeptClauses.{kept_clause}
use Rattle.ab_declare.specs.ClauseReadings.{Parts, HasOneReading, HasNoReading, IsFirstOpen}
use Rattle.ab_declare.specs.ClauseMeanings.{variable_names, variable_from, variables_from, closes_body, IsKeptAs}
use Rattle.ab_declare.specs.JoinedRows.{joiner, joined, AreCells}
use Rattle.ab_declare.proofs.Joined.{one_apart, term_apart, none_apart, open_apart}
use Rattle.ab_declare.proofs.ClauseTypes.{types_agree}
use Rattle.ab_declare.proofs.Numbering.{are_variables, items_later, heads_become}

-- a row makes the same in a table with more types
abbrev pub makes_more : (s t : Table) (store : Contents) (row : Row) (found : Found) → IsExtendedBy s t → IsTypedBy s store → Makes s store row found → Makes t store row found
makes_more s t store row found more typed m = record {
  sketch = m.sketch;
  is = m.is;
  runs = subst (λ is. Runs is [] (m.sketch ∷ []))
      (sym (items_more s t more store typed (length row.variables.items) (length row.names.items) row.names.items row.steps.items m.typed m.fits)) m.runs;
  fit = m.fit;
  count = m.count;
  apart = m.apart;
  order = m.order;
  marks = m.marks;
  typed = typed_more_steps s t more store typed (length row.variables.items) (length row.names.items) row.steps.items m.typed;
  fits = fits_more s t more store typed (length row.variables.items) (length row.names.items) row.steps.items m.typed m.fits;
  within = m.within;
  room = m.room;
}

same_found : (e f : Resolved) (a b : Found) → a ≡ Ok e → b ≡ Ok f → a ≡ b → e ≡ f
same_found e f a b p q r = let h : Ok e ≡ Ok f = sym p ∙ (r ∙ q) in cc

-- what is made of a row whose expression joins head and body
pub sketch_joined : (types : Table) (store : Contents) (row : Row) (e : Parts) (A B : Ty) (m : Makes types store row (Ok (joined e A B))) → erase m.sketch ≡ joined e A B
sketch_joined types store row e A B m = sym (same_found (joined e A B) (erase m.sketch) (Ok (joined e A B)) (Ok (erase m.sketch)) refl refl m.is)

pub names_joined : (types : Table) (store : Contents) (row : Row) (e : Parts) (A B : Ty) → Makes types store row (Ok (joined e A B)) → row.names.items ≡ variable_names e
names_joined types store row e A B m = m.order ∙ ap (λ r. with_names [] (free_names r)) (sketch_joined types store row e A B m)

tells : (n : ℕ) (names : List Name) (x : Name) (A B : Ty) → variable_from n names x A ≡ variable_from n names x B → A ≡ B
tells n names x A B h = ap type_in h
  where
    type_in : Head ℕ → Ty
    type_in (variable y) = y.type
    type_in _ = A

-- the same for any list of names
record KeptWith (sg : Signature) (n : ℕ) (names : List Name) (e : Parts) (A B : Ty) (k : Clause) : Type 0 where
  pub one : HasOneReading (variable_from n names) e A B
  pub is : k ≡ (let head = normal_form sg [] one.reading.head in
      kept_clause (closes_body A head) (variables_from n one.reading.types names) head (normal_form sg [] one.reading.body))

kept_as : (sg : Signature) (n : ℕ) (names : List Name) (e : Parts) (A B : Ty) (k : Clause) → names ≡ variable_names e → KeptWith sg n names e A B k → IsKeptAs sg n e A B k
kept_as sg n names e A B k is h =
    let g : KeptWith sg n (variable_names e) e A B k = subst (λ xs. KeptWith sg n xs e A B k) is h in
    record { one = g.one; is = g.is }

module _ (types : Table) (store : Contents) (row : Row) (found : List Settled) (base : ℕ) (e : Parts) (A B : Ty) (m : Makes types store row (Ok (joined e A B))) where
  abbrev pub names : List Name
  names = row.names.items

  abbrev pub making : ℕ → Making
  making n = variable_from n names

  abbrev pub v : ℕ → Ty
  v = types_found types found

  abbrev pub IsOne : ℕ → Type 0
  IsOne n = single.IsTheReading (making n) (erase m.sketch) prop (term_of base v (making n) m.sketch)

  abbrev pub whole_one : (n : ℕ) → IsOne n → single.IsTheReading (making n) (joined e A B) prop (term_of base v (making n) m.sketch)
  whole_one n one = subst (λ r. single.IsTheReading (making n) r prop (term_of base v (making n) m.sketch)) (sketch_joined types store row e A B m) one

  abbrev pub both_one : (n : ℕ) → IsOne n → HasOneReading (making n) e A B
  both_one n one = one_apart (making n) e A B (term_of base v (making n) m.sketch) (whole_one n one)

  -- the term of both joined
  pub pair_tree : (n : ℕ) (one : IsOne n) (s : Contents) (t : TermId) → IsBuilt types s base v (making n) m.sketch t
      → tree_of types s t ≡ spine (joiner A B) (term (normal_form (signature types) [] (both_one n one).reading.head) (term (normal_form (signature types) [] (both_one n one).reading.body) no_terms))
  pair_tree n one s t built =
      built.is ∙ ap (normal_form (signature types) []) (sym (whole_one n one).is ∙ term_apart (making n) e A B (whole_one n one).reading)

  pub types_are : (n : ℕ) (one : IsOne n) (j : ℕ) → j < length names → (both_one n one).reading.types (get_or names j []) ≡ v (base + j)
  types_are n one j l =
      let w = whole_one n one in
      types_agree (making n) base v w.reading.types names m.sketch w.reading.term prop w.reading.given (tells n names) m.apart m.order m.fit
      (subst (λ r. Reads (making n) w.reading.types [] r w.reading.term prop w.reading.given) (sym (sketch_joined types store row e A B m)) w.reading.reads) w.is j l

  pub kept_so : (old s1 s2 : Contents) (cells : List CellId) (n : ℕ) → n ≡ length old.cells → (one : IsOne n) → AreCells old s1 names (λ j. (settled_at found (base + j)).ty) (length names) cells → s2.cells ≡ s1.cells
      → (c : Clause) (closes : Bool) (head body : Read) → c ≡ kept_clause closes (map (variable_of types s2) cells) head body → closes ≡ closes_body A head
      → head ≡ normal_form (signature types) [] (both_one n one).reading.head → body ≡ normal_form (signature types) [] (both_one n one).reading.body
      → IsKeptAs (signature types) n e A B c
  kept_so old s1 s2 cells n is one are same c closes head body c_is closes_is head_is body_is =
      let o = both_one n one in
      let nf = normal_form (signature types) [] in
      let variables : map (variable_of types s2) cells ≡ variables_from n o.reading.types names =
      ap (λ cs. map (λ (k : CellId). record { number = k.0; type = type_of types (cell_in cs k).ty; hint = (cell_in cs k).hint }) cells) same
      ∙ (are_variables types old s1 names base found cells are o.reading.types (types_are n one)
      ∙ ap (λ i. variables_from i o.reading.types names) (sym is)) in
      kept_as (signature types) n names e A B c (names_joined types store row e A B m) (record {
        one = o;
        is = c_is
            ∙ (ap (λ b. kept_clause b (map (variable_of types s2) cells) head body) closes_is
            ∙ (ap (λ vs. kept_clause (closes_body A head) vs head body) variables
            ∙ (ap (λ h. kept_clause (closes_body A h) (variables_from n o.reading.types names) h body) head_is
            ∙ ap (λ b. kept_clause (closes_body A (nf o.reading.head)) (variables_from n o.reading.types names) (nf o.reading.head) b) body_is)));
      })

  -- the steps, in a store that has cells for the names
  pub steps_run : (s1 : Contents) (os : List Op) → IsExtended store s1 → os ≡ row.steps.items → Runs (items_of types s1.cells names os) [] (m.sketch ∷ [])
  steps_run s1 os more e =
      subst (λ xs. Runs (items_of types s1.cells names xs) [] (m.sketch ∷ [])) (sym e)
      (subst (λ is. Runs is [] (m.sketch ∷ [])) (sym (items_later types store s1 more names row.steps.items m.fits)) m.runs)

  pub nothing_read : (made : Making) → single.HasNoReading made (erase m.sketch) prop → HasNoReading made e A B
  nothing_read made h = none_apart made e A B (subst (λ r. single.HasNoReading made r prop) (sketch_joined types store row e A B m) h)

  pub open_read : (made : Making) (p : ℕ) → single.IsFirstOpen made (erase m.sketch) prop p → IsFirstOpen made e A B p
  open_read made p h = open_apart made e A B p (subst (λ r. single.IsFirstOpen made r prop p) (sketch_joined types store row e A B m) h)

-- what is found of a row's expression
pub verdict_read : (t0 t1 : Table) (store : Contents) (row : Row) (found : Found) (m : Makes t0 store row found) (base frees : ℕ) (steps : List Op) (marks : List Mark) (id : TypeId) (verdict : Verdict) (made : Making)
    → base ≡ length row.variables.items → frees ≡ length row.names.items → steps ≡ row.steps.items → marks ≡ row.marks.items → type_of t0 id ≡ prop
    → ((cells : List CellEntry) (names : List Name) (k : Sketch) → Runs (items_of t0 cells names steps) [] (k ∷ []) → Fit names [] 0 k → base ≡ count k → frees ≡ length names → AreApart names → marks_in marks ≡ marks_of k → IsVerdict t1 made base k (type_of t0 id) verdict)
    → IsVerdict t1 made (length row.variables.items) m.sketch prop verdict
verdict_read t0 t1 store row found m base frees steps marks id verdict made b f s k is go =
    subst (λ C. IsVerdict t1 made (length row.variables.items) m.sketch C verdict) is
    (subst (λ i. IsVerdict t1 made i m.sketch (type_of t0 id) verdict) b
    (go store.cells row.names.items m.sketch (subst (λ os. Runs (items_of t0 store.cells row.names.items os) [] (m.sketch ∷ [])) (sym s) m.runs) m.fit (b ∙ m.count) f m.apart (ap marks_in k ∙ m.marks)))

cells_moved : (old s1 : Contents) (xs ys : List Name) (i j : ℕ) (found : List Settled) (cells : List CellId) → xs ≡ ys → i ≡ j → AreCells old s1 xs (λ k. (settled_at found (i + k)).ty) (length xs) cells
    → AreCells old s1 ys (λ k. (settled_at found (j + k)).ty) (length ys) cells
cells_moved old s1 xs ys i j found cells e f h =
    subst (λ m. AreCells old s1 ys (λ k. (settled_at found (m + k)).ty) (length ys) cells) f (subst (λ zs. AreCells old s1 zs (λ k. (settled_at found (i + k)).ty) (length zs) cells) e h)

module _ (types : Table) (old s1 s2 : Contents) (row : Row) (found : List Settled) (base : ℕ) (e : Parts) (A B : Ty) (m : Makes types old row (Ok (joined e A B)))
    (xs : List Name) (cells : List CellId) (heads : List AHead) (os : List Op) (whole : Option TermId) (b : base ≡ length row.variables.items) (ns : xs ≡ row.names.items) (hs : heads ≡ map Cell cells) (ss : os ≡ row.steps.items)
    (more : IsExtended old s1) (are : AreCells old s1 xs (λ j. (settled_at found (base + j)).ty) (length xs) cells)
    (built : (made : Making) (names : List Name) (k : Sketch) → Runs (items_of types s1.cells names os) [] (k ∷ []) → Fit names [] 0 k → BecomeHeads types s1.cells base (types_found types found) made names heads
    → MatchOption whole ⊥ (IsBuilt types s2 base (types_found types found) made k)) where
  pub are_here : AreCells old s1 row.names.items (λ j. (settled_at found (length row.variables.items + j)).ty) (length row.names.items) cells
  are_here = cells_moved old s1 xs row.names.items base (length row.variables.items) found cells ns b are

  pub built_here : MatchOption whole ⊥ (IsBuilt types s2 (length row.variables.items) (types_found types found) (variable_from (length old.cells) row.names.items) m.sketch)
  built_here =
      subst (λ i. MatchOption whole ⊥ (IsBuilt types s2 i (types_found types found) (variable_from (length old.cells) row.names.items) m.sketch)) b
      (built (variable_from (length old.cells) row.names.items) row.names.items m.sketch (steps_run types old row found base e A B m s1 os more ss) m.fit
      (heads_become types old s1 row.names.items base found cells (cells_moved old s1 xs row.names.items base base found cells ns refl are) heads hs m.apart))

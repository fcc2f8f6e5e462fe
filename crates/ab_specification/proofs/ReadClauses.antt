-- A clause that is read at the type of formulas of the specification logic may be proposed for the program, and which numbers
-- its variables have makes no difference to its head.
use Rattle.std.specs.Prelude.{Option, Some, None, Result, Ok, Err, IfOk, IfErr}
use Rattle.std.proofs.Common.{◌≡◌, ◌↔◌, inl, inr, ℕ, suc, ◌+◌, ◌<◌, Bool, true, false, ◌||◌, List, [], ◌∷◌, map, refl, sym, ap, ◌∙◌, subst, arith}
use Rattle.ab_term.specs.Types.{Ty, o, prop}
use Rattle.ab_term.specs.Logical.{truth}
use Rattle.ab_term.specs.Terms.{Variable, Head, constant, logical, nominal, variable, index, lam, spine, no_terms, Read}
use Rattle.ab_term.specs.Typing.{Signature, HasType}
use Rattle.ab_term.specs.Sameness.{same_numbered}
use Rattle.ab_term.proofs.Same.{same_numbered-Decides}
use Rattle.ab_norm.specs.ab_types.specs.Entries.{Table, kinds, signature}
use Rattle.ab_norm.specs.ab_types.specs.Sound.{IsTable}
use Rattle.ab_norm.specs.ab_store.specs.Trees.{Contents}
use Rattle.ab_grammar.specs.Tree.{Tree}
use Rattle.ab_grammar.specs.CommandTrees as written
use Rattle.ab_unifiers.specs.Replacements.{holds}
use Rattle.ab_unifiers.specs.Unifiers.{AreDifferent}
use Rattle.ab_meaning.specs.ResolvedNames.{Name, Resolved, known}
use Rattle.ab_meaning.specs.Scopes.{Found, resolved}
use Rattle.ab_meaning.specs.Readings.{Raw, Making, Reads, reads_known}
use Rattle.ab_meaning.specs.Normal.{normal_form}
use Rattle.ab_infer.specs.Heads.{AreHeads}
use Rattle.ab_infer.specs.Occurrences.{free_names}
use Rattle.ab_infer.proofs.Fitting.{reading_fits}
use Rattle.ab_infer.proofs.HeadsKept.{heads_kept}
use Rattle.ab_infer.proofs.Normalising.{normal_form_typed}
use Rattle.ab_inference.specs.declared.fault.InferFault.{InferFault}
use Rattle.ab_typing.specs.DefinitionReadings.{clause_of}
use Rattle.ab_typing.specs.declared.definitions.ClauseTerm.{ClauseTerm}
use Rattle.ab_formulas.specs.Clauses.{Clause}
use Rattle.ab_formulas.specs.CaseClauses.{in_terms}
use Rattle.ab_formulas.specs.Programs.{IsGoalOrNone, IsProgramHead, IsProgramProposed}
use Rattle.ab_declare.specs.ClauseReadings.{Parts, ClauseReading}
use Rattle.ab_declare.specs.ClauseMeanings.{clause_scope, body_found, body_type, both_found, parts_found, variable_names, variable_from, variables_from, Finds, IsKeptAs, ClauseMeansNothing}
use Rattle.ab_declare.specs.ClauseAnswers.{IsClauseAnswer}
use Rattle.ab_declare.proofs.Answering.{fine_parts}
use Rattle.ab_declare.proofs.Heads.{IsListed, listed_in_first, listed_in_second, variable_listed, heads_read, known_weaker, StandsOver, nameless}
use Rattle.ab_declare.proofs.Proposed.{within_head, within_body}
use Rattle.ab_declare.proofs.Renaming.{back, plain_head, first_clause, first_kept, one_clause}
use Rattle.ab_declare.proofs.Renumbered.{T, normal_form_moved}
use Rattle.ab_declare.proofs.Resolving.{IsPlain, IsFine, heads_fit, are_plain}
use Rattle.ab_specification.specs.ItemAnswers.{ReadsAs}

-- THE VARIABLES ARE DIFFERENT

earlier : (m k : ℕ) (A : Ty) (types : Name → Ty) (names : List Name) → m < k → holds (map in_terms (variables_from k types names)) (record { name = m; type = A }) ≡ false
earlier m k A types [] l = refl
earlier m k A types (x ∷ xs) l = go (same_numbered (record { name = k; type = types x }) (record { name = m; type = A })) refl (earlier m (suc k) A types xs (omega (arith, l)))
  where
    go : (b : Bool) → same_numbered (record { name = k; type = types x }) (record { name = m; type = A }) ≡ b → holds (map in_terms (variables_from (suc k) types xs)) (record { name = m; type = A }) ≡ false
        → (b || holds (map in_terms (variables_from (suc k) types xs)) (record { name = m; type = A })) ≡ false
    go true e h =
        let same = ap (λ (y : Variable ℕ). y.name) ((same_numbered-Decides (record { name = k; type = types x }) (record { name = m; type = A })).0 e) in
        absurd (omega (arith, l, same))
    go false e h = h

different_from : (n : ℕ) (types : Name → Ty) (names : List Name) → AreDifferent (map in_terms (variables_from n types names))
different_from n types [] = tt
different_from n types (x ∷ xs) = (earlier n (suc n) (types x) types xs (omega arith), different_from (suc n) types xs)

plain_over : (ys : List (Variable ℕ)) (h : Head ℕ) → IsPlain h → StandsOver ys h
plain_over ys (constant c) p = tt
plain_over ys (logical l) p = tt
plain_over ys (nominal a) p = absurd p.0
plain_over ys (variable y) p = absurd p.0
plain_over ys (index i) p = tt

-- a body that isn't written
body_of : (f g : Found) (e : Parts) → both_found f g ≡ Ok e → g ≡ Ok e.body
body_of (Ok h) (Ok b) e is =
    let same : record { head = h; body = b } ≡ e = cc in
    ap (λ (p : Parts). Ok p.body) same
body_of (Ok h) (Err x) e is = absurd (cc)
body_of (Err x) g e is = absurd (cc)

truth_read : (sg : Signature) (made : Making) (types : Name → Ty) {t : Raw} {B : Ty} {As : List Ty} → Reads made types [] (known (logical truth) prop) t B As → normal_form sg [] t ≡ spine (logical truth) no_terms
truth_read sg made types reads_known = refl

truth_alone : (sg : Signature) (made : Making) (types : Name → Ty) (e : Resolved) (t : Raw) (B : Ty) (As : List Ty) → e ≡ known (logical truth) prop → Reads made types [] e t B As
    → normal_form sg [] t ≡ spine (logical truth) no_terms
truth_alone sg made types e t B As is r = truth_read sg made types (subst (λ d. Reads made types [] d t B As) is r)

module _ (sg : Signature) (n : ℕ) (e : Parts) (B : Ty) (fine_head : IsFine sg e.head) (fine_body : IsFine sg e.body) where
  abbrev names : List Name
  names = variable_names e

  abbrev made : Making
  made = variable_from n names

  module _ (r : ClauseReading made e o B) where
    abbrev ys : List (Variable ℕ)
    ys = map in_terms (variables_from n r.types names)

    abbrev head : Read
    head = normal_form sg [] r.head

    abbrev body : Read
    body = normal_form sg [] r.body

    head_over : AreHeads (StandsOver ys) head
    head_over =
        heads_kept (StandsOver ys) (λ i. tt) sg [] r.head
        (heads_read (StandsOver ys) (IsListed names) made r.types (λ i. tt) (λ A. tt) (λ q A f. tt) (λ x l f. variable_listed n r.types names x l)
        (known_weaker IsPlain (StandsOver ys) (plain_over ys) e.head (are_plain sg e.head fine_head))
        (listed_in_first (free_names e.head) (free_names e.body)) r.reads_head)

    body_over : AreHeads (StandsOver ys) body
    body_over =
        heads_kept (StandsOver ys) (λ i. tt) sg [] r.body
        (heads_read (StandsOver ys) (IsListed names) made r.types (λ i. tt) (λ A. tt) (λ q A f. tt) (λ x l f. variable_listed n r.types names x l)
        (known_weaker IsPlain (StandsOver ys) (plain_over ys) e.body (are_plain sg e.body fine_body))
        (listed_in_second (free_names e.head) (free_names e.body)) r.reads_body)

    head_typed : HasType sg [] head o
    head_typed = normal_form_typed sg (reading_fits sg made r.types (λ x C G. refl) (heads_fit sg e.head fine_head) r.reads_head)

    body_typed : HasType sg [] body B
    body_typed = normal_form_typed sg (reading_fits sg made r.types (λ x C G. refl) (heads_fit sg e.body fine_body) r.reads_body)

    reading_proposed : IsGoalOrNone sg body → IsProgramProposed sg (record { variables = variables_from n r.types names; head = head; body = body })
    reading_proposed goal = record {
      different = different_from n r.types names;
      head = head_typed;
      body = goal;
      head_without_constants = nameless ys head head_over;
      body_without_constants = nameless ys body body_over;
      head_variables = within_head sg n e o B fine_head fine_body r;
      body_variables = within_body sg n e o B fine_head fine_body r;
    }

-- THE HEAD WITH OTHER NUMBERS

moved_head : (f : ℕ → ℕ) (t : Read) → IsProgramHead t ↔ IsProgramHead (T f t)
moved_head f (lam A x t) = (λ h. h, λ h. h)
moved_head f (spine (constant c) ts) = (λ h. h, λ h. h)
moved_head f (spine (logical l) ts) = (λ h. h, λ h. h)
moved_head f (spine (nominal a) ts) = (λ h. h, λ h. h)
moved_head f (spine (variable y) ts) = (λ h. h, λ h. h)
moved_head f (spine (index i) ts) = (λ h. h, λ h. h)

module _ (sg : Signature) (n : ℕ) (e : Parts) (B : Ty) (fine_head : IsFine sg e.head) (fine_body : IsFine sg e.body) (k : Clause) (kept : IsKeptAs sg n e o B k) where
  kept_is : k ≡ record { variables = variables_from n kept.one.reading.types (variable_names e); head = normal_form sg [] kept.one.reading.head; body = normal_form sg [] kept.one.reading.body }
  kept_is = kept.is

  kept_proposed : IsGoalOrNone sg (normal_form sg [] kept.one.reading.body) → IsProgramProposed sg k
  kept_proposed goal = subst (IsProgramProposed sg) (sym kept_is) (reading_proposed sg n e B fine_head fine_body kept.one.reading goal)

  head_is : k.head ≡ T (λ i. n + i) (first_clause sg n e o B fine_head fine_body k kept).head
  head_is =
      let moved = back n (variable_names e) kept.one.reading.types (plain_head sg n e o B fine_head fine_body) kept.one.reading.reads_head in
      ap (λ (c : Clause). c.head) kept_is ∙ (ap (normal_form sg []) moved.2 ∙ sym (normal_form_moved (λ i. n + i) sg moved.0))

  same_head : IsProgramHead (first_clause sg n e o B fine_head fine_body k kept).head ↔ IsProgramHead k.head
  same_head = subst (λ t. IsProgramHead (first_clause sg n e o B fine_head fine_body k kept).head ↔ IsProgramHead t) (sym head_is) (moved_head (λ i. n + i) (first_clause sg n e o B fine_head fine_body k kept).head)

-- A CLAUSE THAT IS READ may be proposed, where its names fit what is declared
module _ (sg : Signature) (kinds : List Name) (c : written.Clause) (n : ℕ) (e : Parts) (found : parts_found kinds sg c ≡ Ok e) (fine_head : IsFine sg e.head) (fine_body : IsFine sg e.body) where
  goal : (b : Option Tree) → body_found (clause_scope kinds sg) b ≡ Ok e.body → (r : ClauseReading (variable_from n (variable_names e)) e o (body_type o b)) → IsGoalOrNone sg (normal_form sg [] r.body)
  goal None is r =
      let same : known (logical truth) prop ≡ e.body = cc in
      inr (truth_alone sg (variable_from n (variable_names e)) r.types e.body r.body prop r.in_body (sym same) r.reads_body)
  goal (Some b) is r = inl (body_typed sg n e o fine_head fine_body r)

  pub read_proposed : (k : Clause) → IsKeptAs sg n e o (body_type o c.body) k → IsProgramProposed sg k
  read_proposed k kept =
      kept_proposed sg n e (body_type o c.body) fine_head fine_body k kept
      (goal c.body (body_of (resolved (clause_scope kinds sg) [] c.head) (body_found (clause_scope kinds sg) c.body) e found) kept.one.reading)

-- WHAT IS READ of a written clause
pub reads_as : (t : Table) → IsTable t → (c : written.Clause) (n : ℕ) (k : Clause) → Finds (kinds t) (signature t) c (λ e. IsKeptAs (signature t) n e o (body_type o c.body) k) → ReadsAs (kinds t) (signature t) c k
reads_as t table c n k (e, found, kept) =
    let sg = signature t in
    let B = body_type o c.body in
    let fine = fine_parts t table c e found in
    let one = one_clause sg n e o B fine.0 fine.1 k kept in
    record {
      proposed = read_proposed sg (kinds t) c n e found fine.0 fine.1 k kept;
      means = record {
        parts = e;
        names = found;
        kept = first_clause sg n e o B fine.0 fine.1 k kept;
        reads = first_kept sg n e o B fine.0 fine.1 k kept;
        is = one.case;
      };
      same_head = same_head sg n e B fine.0 fine.1 k kept;
    }

-- the answer to a clause at that type, where the same is declared as the table has
module _ (t u : Table) (store : Contents) (ks : List Name) (sg : Signature) (n : ℕ) (c : written.Clause) (A : Ty) (r : Result ClauseTerm InferFault) (table : IsTable t) (is : A ≡ o) (same_kinds : kinds t ≡ ks) (same_signature : signature t ≡ sg)
    (answer : IsClauseAnswer t u store n c A r) where
  pub all_read : IfOk r (λ k. ReadsAs ks sg c (clause_of u store k))
  all_read = go r answer
    where
      go : (r : Result ClauseTerm InferFault) → IsClauseAnswer t u store n c A r → IfOk r (λ k. ReadsAs ks sg c (clause_of u store k))
      go (Ok k) a =
          let at : Finds (kinds t) (signature t) c (λ e. IsKeptAs (signature t) n e o (body_type o c.body) (clause_of u store k)) =
          subst (λ B. Finds (kinds t) (signature t) c (λ e. IsKeptAs (signature t) n e B (body_type B c.body) (clause_of u store k))) is a in
          subst (λ z. ReadsAs ks z c (clause_of u store k)) same_signature (subst (λ z. ReadsAs z (signature t) c (clause_of u store k)) same_kinds (reads_as t table c n (clause_of u store k) at))
      go (Err f) a = tt

  pub none_read : IfErr r (ClauseMeansNothing ks sg c o)
  none_read = go r answer
    where
      go : (r : Result ClauseTerm InferFault) → IsClauseAnswer t u store n c A r → IfErr r (ClauseMeansNothing ks sg c o)
      go (Ok k) a = tt
      go (Err f) a =
          subst (λ z. ClauseMeansNothing ks z c o f) same_signature (subst (λ z. ClauseMeansNothing z (signature t) c o f) same_kinds (subst (λ B. ClauseMeansNothing (kinds t) (signature t) c B f) is a))

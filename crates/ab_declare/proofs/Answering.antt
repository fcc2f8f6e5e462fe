-- What is answered to a clause, from what is read of its row.
use Rattle.std.specs.Prelude.{Ok, Err, Result, IfOk, Option, Some, None, codes}
use Rattle.std.proofs.Common.{◌≡◌, ℕ, [], refl, sym, ap, ◌∙◌, subst}
use Rattle.ab_term.specs.Types.{Ty, arrow, prop, o, olist}
use Rattle.ab_term.specs.Constants.{type_in}
use Rattle.ab_norm.specs.ab_types.specs.Entries.{Table, kinds, signature, first_entries, IsExtendedBy}
use Rattle.ab_norm.specs.ab_types.specs.Sound.{IsTable}
use Rattle.ab_norm.specs.ab_types.proofs.Entries.{same_signature as same_entries}
use Rattle.ab_norm.specs.ab_store.specs.Trees.{Contents}
use Rattle.ab_norm.specs.ab_store.specs.Naming.{IsTypedBy}
use Rattle.ab_norm.specs.ab_store.proofs.Growing.{extended_itself}
use Rattle.ab_grammar.specs.CommandTrees as written
use Rattle.ab_grammar.specs.Tree.{Tree}
use Rattle.ab_meaning.specs.Scopes.{Scope, Found, resolved}
use Rattle.ab_inference.specs.declared.fault.InferFault.{InferFault}
use Rattle.ab_inference.specs.declared.fault.InferFault.TheVariants.{Unknown, TypeClash, Untyped, Memory}
use Rattle.ab_inference.specs.Sketches.{erase}
use Rattle.ab_infer.proofs.Larger.{store_more}
use Rattle.ab_infer.specs.declared.row.Row.{Row}
use Rattle.ab_infer.specs.Rows.{Makes, Fails, AddsTypes}
use Rattle.ab_typing.specs.declared.definitions.ClauseTerm.{ClauseTerm}
use Rattle.ab_formulas.specs.CaseClauses.{case_of}
use Rattle.ab_formulas.specs.ProposedClauses.{IsProposed}
use Rattle.ab_typing.specs.DefinitionReadings.{clause_of}
use Rattle.ab_declare.specs.ClauseReadings.{Parts}
use Rattle.ab_declare.specs.ClauseMeanings.{clause_scope, body_found, body_type, both_found, parts_found, IsKeptAs, ClauseMeans, ClauseMeansNothing}
use Rattle.ab_declare.specs.ClauseAnswers.{IsClauseAnswer}
use Rattle.ab_declare.specs.CellGrowth.{AddsVariables}
use Rattle.ab_declare.specs.JoinedRows.{joined, joined_found, IsRead}
use Rattle.ab_declare.proofs.Joined.{parts_joined, none_joined}
use Rattle.ab_declare.proofs.Resolving.{IsFine, parts_fine}
use Rattle.ab_declare.proofs.Proposed.{kept_proposed}
use Rattle.ab_declare.proofs.Renaming.{means}

pub adds_nothing : (old new : Table) (store : Contents) → IsExtendedBy old new → IsTypedBy old store → AddsVariables new store store
adds_nothing old new store more typed = record { before = extended_itself store; typed = store_more old new more store typed }

-- where only types were added, a clause stands for the same
module _ (s : Scope) (old new : Table) (adds : AddsTypes old new) (is : s ≡ clause_scope (kinds new) (signature new)) (c : written.Clause) where
  pub same_signature : signature new ≡ signature old
  same_signature = ap type_in adds.constants

  pub same_clause_scope : s ≡ clause_scope (kinds old) (signature old)
  same_clause_scope = is ∙ (ap (λ ks. clause_scope ks (signature new)) adds.kinds ∙ ap (clause_scope (kinds old)) same_signature)

  pub same_parts : both_found (resolved s [] c.head) (body_found s c.body) ≡ parts_found (kinds old) (signature old) c
  same_parts = ap (λ z. both_found (resolved z [] c.head) (body_found z c.body)) same_clause_scope

  pub none_found : (store : Contents) (A B C : Ty) (f : InferFault) → Fails (joined_found A B (resolved s [] c.head) (body_found s c.body)) f → ClauseMeansNothing (kinds old) (signature old) c C f
  none_found store A B C (Unknown x) h = sym same_parts ∙ none_joined A B (resolved s [] c.head) (body_found s c.body) x h
  none_found store A B C (TypeClash p) h = absurd h
  none_found store A B C (Untyped p) h = absurd h
  none_found store A B C (Memory m) h = tt

  -- of the names alone
  pub names_failed : (A B : Ty) (f : InferFault) → Fails (joined_found A B (resolved s [] c.head) (body_found s c.body)) f → Fails (parts_found (kinds old) (signature old) c) f
  names_failed A B (Unknown x) h = sym same_parts ∙ none_joined A B (resolved s [] c.head) (body_found s c.body) x h
  names_failed A B (TypeClash p) h = absurd h
  names_failed A B (Untyped p) h = absurd h
  names_failed A B (Memory m) h = tt

-- what a row makes is a head and a body, joined
pub row_parts : (types : Table) (store : Contents) (row : Row) (A B : Ty) (f g : Found) → Makes types store row (joined_found A B f g) → (e : Parts) × (both_found f g ≡ Ok e) × Makes types store row (Ok (joined e A B))
row_parts types store row A B f g m =
    let p = parts_joined A B f g (erase m.sketch) m.is in
    (p.0, p.1, subst (Makes types store row) (m.is ∙ ap Ok p.2) m)

-- the answer
pub answered : (old new : Table) (store : Contents) (n : ℕ) (c : written.Clause) (e : Parts) (A C : Ty) (r : Result ClauseTerm InferFault) → parts_found (kinds old) (signature old) c ≡ Ok e → signature new ≡ signature old → A ≡ C
    → IsRead new store n e A (body_type A c.body) c.place r → IsClauseAnswer old new store n c C r
answered old new store n c e A C (Ok k) found same is h =
    (e, found, subst (λ D. IsKeptAs (signature old) n e D (body_type D c.body) (clause_of new store k)) is (subst (λ sg. IsKeptAs sg n e A (body_type A c.body) (clause_of new store k)) same h))
answered old new store n c e A C (Err (Unknown x)) found same is h = absurd h
answered old new store n c e A C (Err (TypeClash p)) found same is h = subst (λ D. ClauseMeansNothing (kinds old) (signature old) c D (TypeClash p)) is (e, found, h)
answered old new store n c e A C (Err (Untyped p)) found same is h = subst (λ D. ClauseMeansNothing (kinds old) (signature old) c D (Untyped p)) is (e, found, h)
answered old new store n c e A C (Err (Memory m)) found same is h = tt

-- what is kept is meant, and at the type of formulas it may be proposed

pub fine_parts : (types : Table) → IsTable types → (c : written.Clause) (e : Parts) → parts_found (kinds types) (signature types) c ≡ Ok e → IsFine (signature types) e.head × IsFine (signature types) e.body
fine_parts types table =
    let conses : signature types (codes "::") ≡ Some (arrow o (arrow olist olist)) =
    ap (λ u. signature u (codes "::")) table.begins.1 ∙ same_entries first_entries table.begins.0 (codes "::") (arrow o (arrow olist olist)) refl in
    let nils : signature types (codes "nil") ≡ Some olist =
    ap (λ u. signature u (codes "nil")) table.begins.1 ∙ same_entries first_entries table.begins.0 (codes "nil") olist refl in
    parts_fine (signature types) (kinds types) conses nils

pub meant : (old new : Table) (store : Contents) (n : ℕ) (c : written.Clause) (A : Ty) (r : Result ClauseTerm InferFault) → IsTable old → IsClauseAnswer old new store n c A r
    → IfOk r (λ k. ClauseMeans (kinds old) (signature old) c A (case_of (clause_of new store k)))
meant old new store n c A (Err f) table h = tt
meant old new store n c A (Ok k) table h =
    let fine = fine_parts old table c h.0 h.1 in
    means (kinds old) (signature old) c A n h.0 (clause_of new store k) fine.0 fine.1 h.1 h.2

pub proposed : (old new : Table) (store : Contents) (n : ℕ) (c : written.Clause) (A : Ty) (r : Result ClauseTerm InferFault) → IsTable old → signature new ≡ signature old → A ≡ prop → IsClauseAnswer old new store n c A r
    → IfOk r (λ k. IsProposed (signature new) (clause_of new store k))
proposed old new store n c A (Err f) table same is h = tt
proposed old new store n c A (Ok k) table same is h =
    let fine = fine_parts old table c h.0 h.1 in
    subst (λ sg. IsProposed sg (clause_of new store k)) (sym same)
    (kept_proposed (signature old) n h.0 A (body_type A c.body) (clause_of new store k) is (of_formulas c.body) fine.0 fine.1 h.2)
  where
    of_formulas : (b : Option Tree) → body_type A b ≡ prop
    of_formulas None = refl
    of_formulas (Some b) = is

-- Clauses that are read one after another: what is read stays so in a larger table and store, and numbers make no difference.
use Rattle.std.specs.Prelude.{◌≡◌, ◌↔◌, ℕ, suc, List, [], ◌∷◌, ◌++◌, map, Ok, Err, All}
use Rattle.std.proofs.Common.{refl, sym, ◌∙◌, ap, subst}
use Rattle.std.proofs.lemmas.List.Elements.{All-nil, All-cons, All-head, All-tail, All-weaker}
use Rattle.ab_term.specs.Types.{Ty, prop}
use Rattle.ab_term.specs.Typing.{Signature}
use Rattle.ab_term.specs.Constants.{type_in}
use Rattle.ab_norm.specs.ab_types.specs.Entries.{Table, kinds, constants, signature, IsExtendedBy}
use Rattle.ab_norm.specs.ab_types.specs.Ids.{type_of}
use Rattle.ab_norm.specs.ab_types.specs.Sound.{IsTable}
use Rattle.ab_norm.specs.ab_types.specs.declared.ids.TypeId.{TypeId}
use Rattle.ab_norm.specs.ab_types.proofs.Entries.{same_type}
use Rattle.ab_norm.specs.ab_store.specs.declared.node.CellEntry.{CellEntry}
use Rattle.ab_norm.specs.ab_store.specs.declared.node.CellId.{CellId}
use Rattle.ab_norm.specs.ab_store.specs.declared.node.TermId.{TermId}
use Rattle.ab_norm.specs.ab_store.specs.Growth as growth
use Rattle.ab_norm.specs.ab_store.specs.Naming.{IsTypedBy}
use Rattle.ab_norm.specs.ab_store.specs.Trees.{Contents, Holds, HoldsCell, cell_of, tree_of}
use Rattle.ab_norm.specs.ab_store.proofs.Tables.{same_tree}
use Rattle.ab_grammar.specs.CommandTrees.{Clause}
use Rattle.ab_inference.specs.declared.fault.InferFault.{InferFault}
use Rattle.ab_inference.specs.declared.fault.InferFault.TheVariants as fault
use Rattle.ab_infer.specs.Rows.{Fails}
use Rattle.ab_formulas.specs.Clauses as kept
use Rattle.ab_formulas.specs.CaseClauses.{case_of}
use Rattle.ab_formulas.specs.Faults.{Fault, IsRight, FirstFault}
use Rattle.ab_formulas.specs.Faults as faults
use Rattle.ab_formulas.specs.ProposedClauses.{IsProposed}
use Rattle.ab_typing.specs.DefinitionReadings.{clause_of, HoldsClause}
use Rattle.ab_typing.specs.declared.definitions.ClauseTerm.{ClauseTerm}
use Rattle.ab_declare.specs.ClauseMeanings.{parts_found, body_type, Finds, IsKeptAs, ClauseMeansNothing}
use Rattle.ab_declare.specs.ClauseNumbering.{AreOne}
use Rattle.ab_declare.proofs.Answering.{fine_parts}
use Rattle.ab_declare.proofs.Renaming.{first_clause, first_kept, one_clause}
use Rattle.ab_logic.specs.Worlds as worlds
use Rattle.ab_logic.specs.declared.world.World.{World}
use Rattle.ab_logic.proofs.Blocks.{same_clause}
use Rattle.ab_declare.specs.DefinitionCommands.{IsNamed, IsUnnamed, MeansKept, MeanKept, IsRead, IsUnread}
use Rattle.ab_declare.specs.Halts.{halt_for, Halts, IsReadAs, AreReadAs}

-- WHAT IS TOLD of a clause

pub unnamed : (ks : List (List ℕ)) (sg : Signature) (c : Clause) (f : InferFault) → Fails (parts_found ks sg c) f → Halts (IsUnnamed ks sg c) (halt_for f)
unnamed ks sg c (fault.Unknown x) h = (x, h, refl)
unnamed ks sg c (fault.TypeClash p) h = absurd h
unnamed ks sg c (fault.Untyped p) h = absurd h
unnamed ks sg c (fault.Memory m) h = tt

pub unread : (ks : List (List ℕ)) (sg : Signature) (c : Clause) (A : Ty) (f : InferFault) → A ≡ prop → ClauseMeansNothing ks sg c A f → Halts (IsUnread ks sg c) (halt_for f)
unread ks sg c A (fault.Unknown x) is h = (fault.Unknown x, h, refl)
unread ks sg c A (fault.TypeClash p) is h = (fault.TypeClash p, subst (λ B. ClauseMeansNothing ks sg c B (fault.TypeClash p)) is h, refl)
unread ks sg c A (fault.Untyped p) is h = (fault.Untyped p, subst (λ B. ClauseMeansNothing ks sg c B (fault.Untyped p)) is h, refl)
unread ks sg c A (fault.Memory m) is h = tt

-- WHAT IS READ stays

abbrev Keeps : List (List ℕ) → Signature → ℕ → Clause → kept.Clause → Type 0
Keeps ks sg n c k = Finds ks sg c (λ e. IsKeptAs sg n e prop (body_type prop c.body) k)

module _ (t u : Table) (s r : Contents) (part : IsExtendedBy t u) (same_kinds : kinds u ≡ kinds t) (same_constants : constants u ≡ constants t)
    (typed : IsTypedBy t s) (before : growth.IsExtendedBy s r) where
  abbrev old : World
  old = record { types = t; store = s; additions = [] }

  abbrev new : World
  new = record { types = u; store = r; additions = [] }

  reads : (id : TermId) → Holds s id → tree_of u r id ≡ tree_of t s id
  reads id h = before.trees u id h ∙ (ap (λ w. tree_of w s id) part.1 ∙ same_tree t part.0 s typed id)

  cells : (c : CellId) → HoldsCell s c → worlds.variable_of new c ≡ worlds.variable_of old c
  cells c h =
      ap (λ (k : CellEntry). record { number = c.0; type = type_of u k.ty; name = k.hint }) (before.cells c h)
      ∙ ap (λ A. record { number = c.0; type = A; name = (cell_of s c).hint })
      (ap (λ w. type_of w (cell_of s c).ty) part.1 ∙ same_type t part.0 (cell_of s c).ty (typed.cells c.0 _ h))

  same : (k : ClauseTerm) → HoldsClause t s k → clause_of u r k ≡ clause_of t s k
  same k h = same_clause old new part.0 part.1 before.ids reads before.cell_ids cells k h

  still_read : (c : Clause) (k : ClauseTerm) → IsReadAs t s c k → IsReadAs u r c k
  still_read c k h = record {
    number = h.number;
    meant =
        subst (λ ks. Keeps ks (signature u) h.number c (clause_of u r k)) (sym same_kinds)
        (subst (λ sg. Keeps (kinds t) sg h.number c (clause_of u r k)) (sym (ap type_in same_constants))
        (subst (Keeps (kinds t) (signature t) h.number c) (sym (same k h.held)) h.meant));
    proposed = subst (λ sg. IsProposed sg (clause_of u r k)) (sym (ap type_in same_constants)) (subst (IsProposed (signature t)) (sym (same k h.held)) h.proposed);
    held = record {
      variables = All-weaker (HoldsCell s) (HoldsCell r) before.cell_ids k.variables h.held.variables;
      head = before.ids k.head h.held.head;
      body = before.ids k.body h.held.body;
    };
  }

  pub more_read : (cs : List Clause) (ks : List ClauseTerm) (c : Clause) (k : ClauseTerm) → AreReadAs t s cs ks → IsReadAs u r c k → AreReadAs u r (cs ++ c ∷ []) (ks ++ k ∷ [])
  more_read [] [] c k a h = (h, tt)
  more_read [] (l ∷ ls) c k a h = absurd a
  more_read (d ∷ cs) [] c k a h = absurd a
  more_read (d ∷ cs) (l ∷ ls) c k a h = (still_read d l a.0, more_read cs ls c k a.1 h)

-- the answer to one
pub one_read : (t u : Table) (r : Contents) (n : ℕ) (c : Clause) (A : Ty) (k : ClauseTerm) → A ≡ prop → kinds u ≡ kinds t → constants u ≡ constants t
    → Finds (kinds t) (signature t) c (λ e. IsKeptAs (signature t) n e A (body_type A c.body) (clause_of u r k)) → IsProposed (signature u) (clause_of u r k) → HoldsClause u r k → IsReadAs u r c k
one_read t u r n c A k is same_kinds same_constants meant proposed held = record {
  number = n;
  meant =
      subst (λ ks. Keeps ks (signature u) n c (clause_of u r k)) (sym same_kinds)
      (subst (λ sg. Keeps (kinds t) sg n c (clause_of u r k)) (sym (ap type_in same_constants))
      (subst (λ B. Finds (kinds t) (signature t) c (λ e. IsKeptAs (signature t) n e B (body_type B c.body) (clause_of u r k))) is meant));
  proposed = proposed;
  held = held;
}

-- NUMBERED FROM 0 ON

abbrev pub AreOnes : List kept.Clause → List kept.Clause → Type 0
AreOnes [] [] = Unit {0}
AreOnes (k ∷ ks) (l ∷ ls) = AreOne k l × AreOnes ks ls
AreOnes _ _ = ⊥

module _ (t : Table) (table : IsTable t) (s : Contents) where
  pub first_meant : (c : Clause) (k : ClauseTerm) → IsReadAs t s c k → (l : kept.Clause) × MeansKept (kinds t) (signature t) c l × AreOne (clause_of t s k) l
  first_meant c k h =
      let e = h.meant.0 in
      let B = body_type prop c.body in
      let fine = fine_parts t table c e h.meant.1 in (
        first_clause (signature t) h.number e prop B fine.0 fine.1 (clause_of t s k) h.meant.2,
        (e, h.meant.1, first_kept (signature t) h.number e prop B fine.0 fine.1 (clause_of t s k) h.meant.2),
        one_clause (signature t) h.number e prop B fine.0 fine.1 (clause_of t s k) h.meant.2,
      )

  pub are_meant : (cs : List Clause) (ks : List ClauseTerm) → AreReadAs t s cs ks → (ls : List kept.Clause) × MeanKept (kinds t) (signature t) cs ls × AreOnes (map (clause_of t s) ks) ls
  are_meant [] [] a = ([], tt, tt)
  are_meant [] (k ∷ ks) a = absurd a
  are_meant (c ∷ cs) [] a = absurd a
  are_meant (c ∷ cs) (k ∷ ks) a =
      let one = first_meant c k a.0 in
      let others = are_meant cs ks a.1 in
      (one.0 ∷ others.0, (one.1, others.1), (one.2, others.2))

  pub are_read : (cs : List Clause) (ks : List ClauseTerm) → AreReadAs t s cs ks → All (IsRead (kinds t) (signature t)) cs
  are_read [] [] a = All-nil (IsRead (kinds t) (signature t))
  are_read [] (k ∷ ks) a = absurd a
  are_read (c ∷ cs) [] a = absurd a
  are_read (c ∷ cs) (k ∷ ks) a = let one = first_meant c k a.0 in All-cons (IsRead (kinds t) (signature t)) c cs (one.0, one.1) (are_read cs ks a.1)

pub all_held : (t : Table) (s : Contents) (cs : List Clause) (ks : List ClauseTerm) → AreReadAs t s cs ks → All (HoldsClause t s) ks
all_held t s [] [] a = All-nil (HoldsClause t s)
all_held t s [] (k ∷ ks) a = absurd a
all_held t s (c ∷ cs) [] a = absurd a
all_held t s (c ∷ cs) (k ∷ ks) a = All-cons (HoldsClause t s) k ks a.0.held (all_held t s cs ks a.1)

pub all_proposed : (t : Table) (s : Contents) (cs : List Clause) (ks : List ClauseTerm) → AreReadAs t s cs ks → All (IsProposed (signature t)) (map (clause_of t s) ks)
all_proposed t s [] [] a = All-nil (IsProposed (signature t))
all_proposed t s [] (k ∷ ks) a = absurd a
all_proposed t s (c ∷ cs) [] a = absurd a
all_proposed t s (c ∷ cs) (k ∷ ks) a = All-cons (IsProposed (signature t)) (clause_of t s k) (map (clause_of t s) ks) a.0.proposed (all_proposed t s cs ks a.1)

-- CLAUSES THAT ARE ONE

pub same_cases : (ks ls : List kept.Clause) → AreOnes ks ls → map case_of ks ≡ map case_of ls
same_cases [] [] a = refl
same_cases [] (l ∷ ls) a = absurd a
same_cases (k ∷ ks) [] a = absurd a
same_cases (k ∷ ks) (l ∷ ls) a = ap (λ c. c ∷ map case_of ks) a.0.case ∙ ap (λ cs. case_of l ∷ cs) (same_cases ks ls a.1)

module _ (ps : List (List ℕ)) where
  pub right_too : (ks ls : List kept.Clause) → AreOnes ks ls → All (IsRight ps) ks → All (IsRight ps) ls
  right_too [] [] a all = all
  right_too [] (l ∷ ls) a all = absurd a
  right_too (k ∷ ks) [] a all = absurd a
  right_too (k ∷ ks) (l ∷ ls) a all = All-cons (IsRight ps) l ls ((a.0.right ps).0 (All-head (IsRight ps) k ks all)) (right_too ks ls a.1 (All-tail (IsRight ps) k ks all))

  pub fault_too : (number : ℕ) (ks ls : List kept.Clause) (f : Fault) → AreOnes ks ls → FirstFault ps number ks f → FirstFault ps number ls f
  fault_too number (k ∷ ks) (l ∷ ls) f a (faults.here h) = faults.here ((a.0.faults ps number f).0 h)
  fault_too number (k ∷ ks) (l ∷ ls) f a (faults.later right rest) = faults.later ((a.0.right ps).0 right) (fault_too (suc number) ks ls f a.1 rest)
  fault_too number (k ∷ ks) [] f a h = absurd a
  fault_too number [] ls f a h = elim h [ ]

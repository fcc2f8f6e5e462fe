-- What a world holds of the path stays there while the world grows and declares the same.
use Rattle.std.proofs.Common.{◌≡◌, ◌≢◌, ℕ, List, [], map, Some, None, take, refl, sym, ◌∙◌, ap, subst}
use Rattle.std.specs.Prelude.{Contains, Option, IfSome}
use Rattle.std.specs.List.{All, AllPairs}
use Rattle.std.proofs.lemmas.List.Elements.{All-weaker, All-take}
use Rattle.ab_term.specs.Types.{Ty, prop}
use Rattle.ab_term.specs.Terms as tree
use Rattle.ab_term.specs.Terms.{Read}
use Rattle.ab_term.specs.Typing.{HasType}
use Rattle.ab_term.specs.Variables.{variables}
use Rattle.ab_norm.specs.ab_store.proofs.Fronts.{front_take, AllPairs-front}
use Rattle.ab_norm.specs.ab_types.proofs.Entries.{type_still_held}
use Rattle.ab_norm.specs.ab_store.specs.declared.node.CellId.{CellId}
use Rattle.ab_norm.specs.ab_store.specs.declared.node.TermId.{TermId}
use Rattle.ab_norm.specs.declared.nominal.Nominal.{Nominal}
use Rattle.ab_norm.specs.Nominals.{HoldsNominal}
use Rattle.ab_formulas.specs.Declarations.{Declarations, signature_in}
use Rattle.ab_logic.specs.Worlds.{Holds, HoldsCell, read, variable_of, declarations_of}
use Rattle.ab_logic.specs.WorldGrowth.{Grows}
use Rattle.ab_logic.specs.declared.world.World.{World}
use Rattle.ab_search_paths.specs.declared.likeness.StandIn.{StandIn}
use Rattle.ab_search_paths.specs.declared.entries.Entry.{Entry}
use Rattle.ab_search_paths.specs.declared.entries.Taken.{Taken}
use Rattle.ab_search_paths.specs.declared.entries.Taken.TheVariants.{Truth, Hypothesis, Equality, Both, Left, Right, Assuming, Constant, Term, Variable, Layer, Clause, Rule}
use Rattle.ab_search_paths.specs.Paths.{IsOf, IsTermIn, HoldsTaken, HoldsEntry, HoldsStandIn, IsApart, AreStandIns}

module _ (w v : World) (grows : Grows w v) (declared : declarations_of v ≡ declarations_of w) where
  pub is_then : (t : TermId) (A : Ty) → IsOf w t A → IsOf v t A
  is_then t A x = (
    grows.ids t x.0,
    subst (λ r. HasType (signature_in (declarations_of v)) [] r A) (sym (grows.readings t x.0))
        (subst (λ (D : Declarations). HasType (signature_in D) [] (read w t) A) (sym declared) x.1),
  )

  pub term_then : (t : TermId) → IsTermIn w t → IsTermIn v t
  term_then t x = (x.0, is_then t x.0 x.1)

  stand_in_then : (s : StandIn) → HoldsStandIn w s → HoldsStandIn v s
  stand_in_then s h = record {
    cell = grows.cell_ids s.cell h.cell;
    typed = subst (λ A. IsOf v s.term A) (sym (ap (λ y. y.type) (grows.cells s.cell h.cell))) (is_then s.term (variable_of w s.cell).type h.typed);
  }

  apart_then : (s u : StandIn) → IsApart w s u → IsApart v s u
  apart_then s u x = (
    grows.ids u.term x.0,
    subst (λ r. ¬ Contains (map (λ (y : tree.Variable ℕ). y.name) (variables r)) s.cell.0) (sym (grows.readings u.term x.0)) x.1,
  )

  pub stand_ins_then : (list : List StandIn) → AreStandIns w list → AreStandIns v list
  stand_ins_then list h = record {
    held = All-weaker (HoldsStandIn w) (HoldsStandIn v) stand_in_then list h.held;
    once = h.once;
    apart = All-weaker (λ s. All (IsApart w s) list) (λ s. All (IsApart v s) list)
        (λ s all. All-weaker (IsApart w s) (IsApart v s) (apart_then s) list all) list h.apart;
  }

module _ (w v : World) (grows : Grows w v) (declared : declarations_of v ≡ declarations_of w) where
  names_then : (names : List Nominal) → All (HoldsNominal w.types) names → All (HoldsNominal v.types) names
  names_then names h = All-weaker (HoldsNominal w.types) (HoldsNominal v.types) (λ a x. type_still_held w.types v.types grows.types a.ty x) names h

  cell_then : (cell : Option CellId) → IfSome cell (HoldsCell w) → IfSome cell (HoldsCell v)
  cell_then None x = tt {0}
  cell_then (Some c) x = grows.cell_ids c x

  taken_then : (t : Taken) → HoldsTaken w t → HoldsTaken v t
  taken_then (Term t) x = term_then w v grows declared t x
  taken_then (Variable cell names) x = (cell_then cell x.0, names_then names.items x.1)
  taken_then (Clause c) x = record {
    head = grows.ids c.head x.head;
    body = grows.ids c.body x.body;
    names = names_then c.names.items x.names;
    values = All-weaker (IsTermIn w) (IsTermIn v) (term_then w v grows declared) c.values.items x.values;
  }
  taken_then (Rule r) x = All-weaker (IsTermIn w) (IsTermIn v) (term_then w v grows declared) r.values.items x
  taken_then Truth x = tt {0}
  taken_then (Hypothesis n) x = tt {0}
  taken_then Equality x = tt {0}
  taken_then (Both b) x = tt {0}
  taken_then Left x = tt {0}
  taken_then Right x = tt {0}
  taken_then Assuming x = tt {0}
  taken_then Constant x = tt {0}
  taken_then Layer x = tt {0}

  pub entry_then : (e : Entry) → HoldsEntry w e → HoldsEntry v e
  entry_then e h = record { conclusion = is_then w v grows declared e.conclusion prop h.conclusion; taken = taken_then e.taken h.taken }

  pub entries_then : (es : List Entry) → All (HoldsEntry w) es → All (HoldsEntry v) es
  entries_then es h = All-weaker (HoldsEntry w) (HoldsEntry v) entry_then es h

-- some of the first are as all were
pairs_take : (R : StandIn → StandIn → Type 0) (n : ℕ) (list : List StandIn) → AllPairs R list → AllPairs R (take n list)
pairs_take R n list p = AllPairs-front R (take n list) list (front_take n (take n list) list refl) p

pub fewer_stand_ins : (w : World) (n : ℕ) (list : List StandIn) → AreStandIns w list → AreStandIns w (take n list)
fewer_stand_ins w n list h = record {
  held = All-take (HoldsStandIn w) n list h.held;
  once = pairs_take (λ (s u : StandIn). s.cell ≢ u.cell) n list h.once;
  apart = All-take (λ s. All (IsApart w s) (take n list)) n list
      (All-weaker (λ s. All (IsApart w s) list) (λ s. All (IsApart w s) (take n list)) (λ s all. All-take (IsApart w s) n list all) list h.apart);
}

-- Worlds that grow while items are declared.
use Rattle.std.specs.Prelude.{Option, Some, None, Result, Ok, Err, IfOk, OnErr}
use Rattle.std.proofs.Common.{◌≡◌, ℕ, List, [], ◌++◌, sym, ap, ◌∙◌, subst, append-nil}
use Rattle.std.proofs.lemmas.List.{append_cancel_left}
use Rattle.std.specs.declared.alloc.AllocError.{AllocError}
use Rattle.ab_norm.specs.ab_types.specs.Entries.{Table, kinds, constants, IsExtendedBy}
use Rattle.ab_norm.specs.ab_types.proofs.Entries.{kinds-append, constants-append}
use Rattle.ab_norm.specs.ab_store.specs.Trees.{Contents}
use Rattle.ab_norm.specs.ab_store.specs.Growth as store
use Rattle.ab_norm.specs.ab_store.specs.Naming.{IsTypedBy}
use Rattle.ab_grammar.specs.Tree.{Ty}
use Rattle.ab_grammar.specs.CommandTrees as command
use Rattle.ab_grammar.specs.CommandTrees.{Command}
use Rattle.ab_grammar.specs.FileTrees as file
use Rattle.ab_logic.specs.WorldGrowth.{Grows}
use Rattle.ab_logic.specs.Worlds.{declarations_of, IsWorld}
use Rattle.ab_logic.specs.declared.world.World.{World}
use Rattle.ab_logic.proofs.Blocks.{declared_more}
use Rattle.ab_logic.proofs.Growing.{grows_not, grows_on, grows_store, grows_types}
use Rattle.ab_declare.specs.declared.refusal.Refusal.{Refusal}
use Rattle.ab_declare.specs.DeclarationAnswers.{Declared}
use Rattle.ab_declare.specs.Moments.{HasMore}
use Rattle.ab_declare.proofs.Knowing.{none_declared}
use Rattle.ab_declare.proofs.Restoring.{restored_grows}
use Rattle.ab_specification.specs.ItemDeclarations.{new_kinds, new_constants, no_kinds, no_constants}
use Rattle.ab_specification.specs.ItemAnswers.{ItemAnswer}

-- a world that got types, terms and cells declares the same
module _ (w : World) (is : IsWorld w) (u : Table) (r : Contents) (part : IsExtendedBy w.types u) (same_kinds : kinds u ≡ kinds w.types) (same_constants : constants u ≡ constants w.types)
    (before : store.IsExtendedBy w.store r) (typed : IsTypedBy u r) where
  grows_first : Grows w (record { types = u; store = w.store; additions = w.additions })
  grows_first = grows_types w.types u w.store w.additions is part

  pub grows_read : Grows w (record { types = u; store = r; additions = w.additions })
  grows_read =
      grows_on w (record { types = u; store = w.store; additions = w.additions }) (record { types = u; store = r; additions = w.additions }) grows_first
      (grows_store u w.store r w.additions grows_first.world before typed)

  no_kind : kinds part.0 ≡ []
  no_kind =
      let e : kinds w.types ++ kinds part.0 ≡ kinds w.types ++ [] = sym (kinds-append w.types part.0) ∙ (sym (ap kinds part.1) ∙ same_kinds) ∙ sym (append-nil (kinds w.types)) in
      append_cancel_left (kinds w.types) (kinds part.0) [] e

  no_constant : constants part.0 ≡ []
  no_constant =
      let e : constants w.types ++ constants part.0 ≡ constants w.types ++ [] = sym (constants-append w.types part.0) ∙ (sym (ap constants part.1) ∙ same_constants) ∙ sym (append-nil (constants w.types)) in
      append_cancel_left (constants w.types) (constants part.0) [] e

  pub declares_same : declarations_of (record { types = u; store = r; additions = w.additions }) ≡ declarations_of w
  declares_same =
      declared_more w (record { types = u; store = r; additions = w.additions }) part.0 part.1 grows_read.ids grows_read.readings grows_read.cell_ids grows_read.cells 0 w.additions is.order is.additions
      ∙ ap (λ es. declarations_of w ++ es) (none_declared part.0 no_kind no_constant)
      ∙ append-nil (declarations_of w)

pub grows_more : (old new : World) → Grows old new → HasMore old new
grows_more old new g = record { types = g.types; marks = g.marks; additions = g.additions }

-- a command that declares or is refused, and what else it may leave
pub grows_so : (old new : World) (c : Command) (r : Result (Option Refusal) AllocError) → IsWorld old → IfOk r (Declared old new c) → OnErr r (new ≡ old) → Grows old new
grows_so old new c (Ok None) is h e = h.grows
grows_so old new c (Ok (Some q)) is h e = restored_grows old new is h.restored
grows_so old new c (Err m) is h e = subst (Grows old) (sym e) (grows_not old is)

pub kinds_answer : (old new : World) (n : ℕ) (xs : List (List ℕ)) (r : Result (Option Refusal) AllocError) → IfOk r (Declared old new (command.kinds xs)) → IfOk r (ItemAnswer old new n (file.kinds xs))
kinds_answer old new n xs (Ok None) h = record { more = h.more; fact = new_kinds h.declares; declared = h.declared }
kinds_answer old new n xs (Ok (Some q)) h = no_kinds h.declines
kinds_answer old new n xs (Err m) h = tt

pub constants_answer : (old new : World) (n : ℕ) (xs ys : List (List ℕ)) (A : Ty) (r : Result (Option Refusal) AllocError) → xs ≡ ys → IfOk r (Declared old new (command.constants xs A))
    → IfOk r (ItemAnswer old new n (file.constants ys A))
constants_answer old new n xs ys A r e h = subst (λ zs. IfOk r (ItemAnswer old new n (file.constants zs A))) e (constants_read r h)
  where
    constants_read : (q : Result (Option Refusal) AllocError) → IfOk q (Declared old new (command.constants xs A)) → IfOk q (ItemAnswer old new n (file.constants xs A))
    constants_read (Ok None) k = record { more = k.more; fact = new_constants k.declares; declared = k.declared }
    constants_read (Ok (Some q)) k = no_constants k.declines
    constants_read (Err m) k = tt

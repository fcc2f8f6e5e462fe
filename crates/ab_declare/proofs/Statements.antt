-- The formula that an expression states, in a world's words.
use Rattle.std.specs.Prelude.{◌≡◌, ℕ, List, [], ◌∷◌, ◌++◌, None, Ok, Err}
use Rattle.std.proofs.Common.{refl, sym, ◌∙◌, ap, subst, append-nil}
use Rattle.ab_term.specs.Types.{prop}
use Rattle.ab_term.specs.Typing.{HasType}
use Rattle.ab_term.specs.Constants.{type_in}
use Rattle.ab_norm.specs.ab_types.specs.Entries.{Table, kinds, constants, signature, IsExtendedBy}
use Rattle.ab_norm.specs.ab_types.proofs.Entries.{kinds-append, constants-append}
use Rattle.ab_norm.specs.ab_store.specs.declared.node.TermId.{TermId}
use Rattle.ab_norm.specs.ab_store.specs.Trees.{Contents, tree_of}
use Rattle.ab_norm.specs.NodeGrowth.{AddsTypedTerms}
use Rattle.ab_grammar.specs.Tree.{Tree, place_of}
use Rattle.ab_grammar.specs.CommandTrees as command
use Rattle.ab_meaning.specs.ResolvedNames.{Resolved}
use Rattle.ab_meaning.specs.Scopes.{Scope, elsewhere, resolved}
use Rattle.ab_meaning.specs.Normal.{normal_form}
use Rattle.ab_infer.specs.ElaborationAnswers.{IsAnswer}
use Rattle.ab_infer.specs.Outcomes.{nominal_of, IsNormal}
use Rattle.ab_inference.specs.declared.fault.InferFault.{InferFault}
use Rattle.ab_inference.specs.declared.fault.InferFault.TheVariants as fault
use Rattle.ab_meaning.specs.Terms.{made, MeansNothingIn}
use Rattle.ab_meaning.specs.Refusals as row
use Rattle.ab_formulas.specs.Declarations.{Declarations, signature_in, theorem_in}
use Rattle.ab_formulas.specs.Formulas.{IsSentence}
use Rattle.ab_logic.specs.WorldGrowth.{Grows}
use Rattle.ab_logic.specs.Worlds.{declared, declarations_of, IsWorld}
use Rattle.ab_logic.specs.declared.world.World.{World}
use Rattle.ab_logic.proofs.Blocks.{declared_more}
use Rattle.ab_logic.proofs.Growing.{grows_types, grows_store, grows_on}
use Rattle.ab_meaning.specs.ClosedScopes.{IsClosedScope}
use Rattle.ab_meaning.proofs.Heads.{reads_has, normal_form_has, RawHas}
use Rattle.ab_meaning.proofs.Standing.{IsDeclared, admits_declared, sentence}
use Rattle.ab_meaning.proofs.Resolving.{names_are_declared}
use Rattle.ab_meaning.proofs.Makings.{one_too, none_too, open_too}
use Rattle.ab_declare.specs.declared.refusal.Refusal.{Refusal}
use Rattle.ab_declare.specs.Refusals.{RefusedFor, refusal_for}
use Rattle.ab_declare.specs.DeclarationCommands.{scope_of, States, Declines, states_nothing}
use Rattle.ab_declare.specs.DeclarationAnswers.{IsStated, IsDeclined}
use Rattle.ab_declare.specs.Moments.{IsRestored}
use Rattle.ab_declare.proofs.Knowing.{world_knows, world_constants, none_declared}

-- what a table lets an expression name
abbrev pub scope_in : Table → Scope
scope_in t = record { kinds = kinds t; constants = signature t; variables = []; nominals = []; place = elsewhere }

empty_of : {X : Type 0} (xs ys : List X) → xs ++ ys ≡ xs → ys ≡ []
empty_of [] ys e = e
empty_of (x ∷ xs) ys e = empty_of xs ys (let h : x ∷ (xs ++ ys) ≡ x ∷ xs = e in cc)

closed_scope : (D : Declarations) → IsClosedScope (scope_of D)
closed_scope D = record { variables = refl; place = refl }

module _ (w : World) (is : IsWorld w) where
  same_signature : signature_in (declarations_of w) ≡ signature w.types
  same_signature = ap type_in (world_constants w is)

  same_scope : scope_of (declarations_of w) ≡ scope_in w.types
  same_scope = rw ((world_knows w is).kinds, world_constants w is) refl

  module _ (e : Tree) (r : Resolved) (names : resolved (scope_in w.types) [] e ≡ Ok r) where
    names_in : resolved (scope_of (declarations_of w)) [] e ≡ Ok r
    names_in = ap (λ s. resolved s [] e) same_scope ∙ names

    -- what is read means the formula, which is a sentence
    module _ (types : Table) (store : Contents) (t : TermId) (same : constants types ≡ constants w.types) (n : IsNormal types store r prop t) where
      signature_same : signature types ≡ signature_in (declarations_of w)
      signature_same = ap type_in same ∙ sym same_signature

      pub means : States (declarations_of w) e (tree_of types store t)
      means = record {
        named = r;
        names = names_in;
        raw = n.reading;
        reading = one_too IsDeclared nominal_of made r prop (names_are_declared (scope_of (declarations_of w)) (closed_scope (declarations_of w)) e r names_in) n.reading n.one;
        normal = n.is ∙ ap (λ sg. normal_form sg [] n.reading) signature_same;
      }

      pub is_sentence : IsSentence (signature_in (declarations_of w)) (tree_of types store t)
      is_sentence =
          let declared_names = names_are_declared (scope_of (declarations_of w)) (closed_scope (declarations_of w)) e r names_in in
          let heads = subst (RawHas IsDeclared) n.one.is (reads_has IsDeclared admits_declared nominal_of n.one.reading.types n.one.reading.reads declared_names) in
          let typed : HasType (signature types) [] (normal_form (signature types) [] n.reading) prop = subst (λ F. HasType (signature types) [] F prop) n.is n.term.1 in
          let whole : IsSentence (signature types) (normal_form (signature types) [] n.reading) = sentence (signature types) _ typed (normal_form_has IsDeclared (signature types) n.reading heads) in
          subst (λ sg. IsSentence sg (tree_of types store t)) signature_same (subst (IsSentence (signature types)) (sym n.is) whole)

  -- the world with what was read
  module _ (types : Table) (store : Contents) (part : IsExtendedBy w.types types) (same_kinds : kinds types ≡ kinds w.types) (same_constants : constants types ≡ constants w.types)
      (adds : AddsTypedTerms types w.store store) where
    abbrev pub later : World
    later = record { types = types; store = store; additions = w.additions }

    grows_first : Grows w (record { types = types; store = w.store; additions = w.additions })
    grows_first = grows_types w.types types w.store w.additions is part

    pub grows_later : Grows w (record { types = types; store = store; additions = w.additions })
    grows_later = grows_on w (record { types = types; store = w.store; additions = w.additions }) (record { types = types; store = store; additions = w.additions }) grows_first
        (grows_store types w.store store w.additions grows_first.world adds.before adds.typed)

    nothing_more : declared part.0 ≡ []
    nothing_more = none_declared part.0 (empty_of (kinds w.types) (kinds part.0) (sym (kinds-append w.types part.0) ∙ (sym (ap kinds part.1) ∙ same_kinds)))
        (empty_of (constants w.types) (constants part.0) (sym (constants-append w.types part.0) ∙ (sym (ap constants part.1) ∙ same_constants)))

    pub declares_same : declarations_of (record { types = types; store = store; additions = w.additions }) ≡ declarations_of w
    declares_same =
        declared_more w (record { types = types; store = store; additions = w.additions }) part.0 part.1 grows_later.ids grows_later.readings grows_later.cell_ids grows_later.cells 0 w.additions is.order is.additions
        ∙ ap (λ ds. declarations_of w ++ ds) nothing_more ∙ append-nil (declarations_of w)

    pub stated : (x : List ℕ) (e : Tree) (t : TermId) → theorem_in (declarations_of w) x ≡ None → IsAnswer types store (resolved (scope_in w.types) [] e) prop (place_of e) (Ok t)
        → IsStated w (record { types = types; store = store; additions = w.additions }) x e t
    stated x e t free (r, names, n) = record {
      new_name = free;
      states = means e r names types store t same_constants n;
      held = n.term.0;
      sentence = is_sentence e r names types store t same_constants n;
      declared = declares_same;
      grows = grows_later;
    }

  -- what isn't read means nothing
  means_nothing : (types : Table) (store : Contents) (e : Tree) (f : InferFault) (r : Refusal) → IsAnswer types store (resolved (scope_in w.types) [] e) prop (place_of e) (Err f) → RefusedFor f r
      → (c : row.Refusal) × MeansNothingIn (scope_of (declarations_of w)) e prop c × (r ≡ refusal_for c)
  means_nothing types store e (fault.Unknown x) r a is = (row.unknown x, ap (λ s. resolved s [] e) same_scope ∙ a, is)
  means_nothing types store e (fault.TypeClash p) r (n, names, rest) is =
      let here = ap (λ s. resolved s [] e) same_scope ∙ names in
      (row.type_clash p, ((n, here, none_too IsDeclared nominal_of made n prop (names_are_declared (scope_of (declarations_of w)) (closed_scope (declarations_of w)) e n here) rest.0), rest.1), is)
  means_nothing types store e (fault.Untyped p) r (n, names, several) is =
      let here = ap (λ s. resolved s [] e) same_scope ∙ names in
      (row.untyped p, (n, here, open_too IsDeclared nominal_of made n prop (names_are_declared (scope_of (declarations_of w)) (closed_scope (declarations_of w)) e n here) p several), is)
  means_nothing types store e (fault.Memory m) r a is = absurd is

  pub statement_declined : (types : Table) (store : Contents) (new : World) (x : List ℕ) (e : Tree) (f : InferFault) (r : Refusal) → theorem_in (declarations_of w) x ≡ None
      → IsAnswer types store (resolved (scope_in w.types) [] e) prop (place_of e) (Err f) → RefusedFor f r → IsRestored w new → IsDeclined w new (command.theorem x e) r
  statement_declined types store new x e f r free a is back =
      let n = means_nothing types store e f r a is in
      record { declines = subst (Declines (declarations_of w) (command.theorem x e)) (sym n.2) (states_nothing n.0 free n.1); restored = back }

-- WHAT IS DECLARED brings no judgement that coinduction marked: the bodies of definitions come from texts, and nothing else defines.
use Rattle.std.proofs.Common.{◌≡◌, ℕ, ◌+◌, List, [], ◌∷◌, ◌++◌, map, filter, codes, Bool, true, false, Option, Some, None, Ok, Err, if◌then◌else◌, bytes_eq, refl, sym, ◌∙◌, ap, subst, append_assoc, append-nil}
use Rattle.std.specs.Prelude.{All}
use Rattle.std.specs.List.{list_any}
use Rattle.std.proofs.lemmas.List.Elements.{All-nil, All-cons}
use Rattle.ab_term.specs.Types.{Ty, prop}
use Rattle.ab_term.specs.Terms.{Read}
use Rattle.ab_term.specs.Typing.{Signature}
use Rattle.ab_term.specs.Constants.{Constant}
use Rattle.ab_types.specs.Entries.{first_entries}
use Rattle.ab_grammar.specs.Tree as tree
use Rattle.ab_grammar.specs.Tree.{Tree}
use Rattle.ab_grammar.specs.CommandTrees as written
use Rattle.ab_grammar.specs.CommandTrees.{Command, Defined}
use Rattle.ab_grammar.specs.FileTrees.{Item}
use Rattle.ab_unifiers.specs.Clauses as cases
use Rattle.ab_unifiers.specs.Member.{member_first, member_later}
use Rattle.ab_formulas.specs.Clauses.{ClauseVariable, Clause}
use Rattle.ab_formulas.specs.CaseClauses.{case_of}
use Rattle.ab_formulas.specs.Declarations.{Declarations, Block, a_kind, a_constant, a_block, a_program_clause, block_in, Extends}
use Rattle.ab_formulas.specs.Sequents as sequents
use Rattle.ab_theory.specs.Unfolding as unfolding_of
use Rattle.ab_meaning.specs.Normal.{normal_form}
use Rattle.ab_meaning.specs.ResolvedNames.{Name}
use Rattle.ab_meaning.specs.Scopes.{Found, resolved}
use Rattle.ab_meaning.specs.Terms.{kinds_in}
use Rattle.ab_logic.specs.Worlds.{declared, defined, member_block, first_declarations}
use Rattle.ab_logic.proofs.Declaring.{block-declared}
use Rattle.ab_declare.specs.ClauseReadings.{Parts}
use Rattle.ab_declare.specs.ClauseMeanings.{clause_scope, body_found, both_found, body_type, variable_names, place_in, variables_from, closes_body}
use Rattle.ab_declare.specs.KeptClauses.{stands_in_body_alone, kept_clause}
use Rattle.ab_declare.specs.Existentials.{exists_all}
use Rattle.ab_declare.specs.DefinitionCommands.{MeansKept, MeanKept, predicate_of, block_with, signature_with, Defines}
use Rattle.ab_declare.specs.DeclarationCommands.{Declares, new_kinds, new_constants, new_predicates}
use Rattle.ab_specification.specs.ItemDeclarations.{ItemDeclares, new_clause, no_declaration}
use Rattle.ab_specification.specs.ItemDeclarations as item
use Rattle.ab_specification.specs.FileDeclarations.{PlacedItem, AllDeclare, no_item, one_more}
use Rattle.ab_formulas.proofs.Declaring.{block_in-append}
use Rattle.ab_search_layers.specs.Layered.{MemberIsDefined}
use Rattle.ab_search_answers.specs.FromTexts.{IsBodyFromText, IsFromText}
use Rattle.ab_search_answers.specs.Unmarked.{HasNoHash, HaveNoHash}
use Rattle.ab_search_answers.proofs.TextClauses.{behind_none, definition_none}

-- a clause's variable, as one that is closed
abbrev as_variable : ClauseVariable → sequents.Variable
as_variable v = record { number = v.number; name = v.hint; type = v.type }

same_closing : (vs : List ClauseVariable) (t : Read) → exists_all vs t ≡ unfolding_of.exists_all (map as_variable vs) t
same_closing [] t = refl
same_closing (v ∷ vs) t = ap (unfolding_of.exists_over (as_variable v)) (same_closing vs t)

-- what is closed of a clause that is kept so
abbrev closed_of : Bool → List ClauseVariable → Read → Read → List sequents.Variable
closed_of false vs head body = []
closed_of true vs head body = map as_variable (filter (stands_in_body_alone head body) vs)

kept_body : (b : Bool) (vs : List ClauseVariable) (head body : Read) → (kept_clause b vs head body).body ≡ unfolding_of.exists_all (closed_of b vs head body) body
kept_body false vs head body = refl
kept_body true vs head body = same_closing (filter (stands_in_body_alone head body) vs) body

-- the body's text: `true` where none is written
abbrev text_of : Option Tree → Tree
text_of None = tree.name (codes "true") 0
text_of (Some b) = b

found_text : (kinds : List Name) (sg : Signature) (o : Option Tree) → body_found (clause_scope kinds sg) o ≡ resolved (clause_scope kinds sg) [] (text_of o)
found_text kinds sg None = refl
found_text kinds sg (Some b) = refl

second_found : (f g : Found) (e : Parts) → both_found f g ≡ Ok e → g ≡ Ok e.body
second_found (Ok a) (Ok b) e q = let same : record { head = a; body = b } ≡ e = cc in ap (λ (e : Parts). Ok e.body) same
second_found (Ok a) (Err x) e q = absurd (cc)
second_found (Err x) g e q = absurd (cc)

-- A CLAUSE THAT IS READ comes from a text
read_clause : (kinds : List Name) (sg : Signature) (c : written.Clause) (k : Clause) → MeansKept kinds sg c k → IsBodyFromText k.body
read_clause kinds sg c k (e, names, kept) =
    let s = clause_scope kinds sg in
    let reading = kept.one.reading in
    let head = normal_form sg [] reading.head in
    let vs = variables_from 0 reading.types (variable_names e) in
    record {
      signature = sg;
      scope = s;
      text = text_of c.body;
      named = e.body;
      names = sym (found_text kinds sg c.body) ∙ second_found (resolved s [] c.head) (body_found s c.body) e names;
      number = λ x. 0 + place_in (variable_names e) x;
      types = reading.types;
      raw = reading.body;
      type = body_type prop c.body;
      given = reading.in_body;
      reads = reading.reads_body;
      closed = closed_of (closes_body prop head) vs head (normal_form sg [] reading.body);
      is = ap (λ (k : Clause). k.body) kept.is ∙ kept_body (closes_body prop head) vs head (normal_form sg [] reading.body);
    }

all_read : (kinds : List Name) (sg : Signature) (cs : List written.Clause) (ks : List Clause) → MeanKept kinds sg cs ks → All IsFromText (map case_of ks)
all_read kinds sg [] [] m = All-nil IsFromText
all_read kinds sg [] (k ∷ ks) m = absurd m
all_read kinds sg (c ∷ cs) [] m = absurd m
all_read kinds sg (c ∷ cs) (k ∷ ks) m = All-cons IsFromText (case_of k) (map case_of ks) (k, read_clause kinds sg c k m.0, refl) (all_read kinds sg cs ks m.1)

-- what defines nothing
pub nothing_defined : (E : Declarations) → ((p : List ℕ) → block_in E p ≡ None) → HaveNoHash E
nothing_defined E none p b e = absurd (let bad : None ≡ Some b = sym (none p) ∙ e in cc)

no_kind : (xs : List (List ℕ)) (p : List ℕ) → block_in (map a_kind xs) p ≡ None
no_kind [] p = refl
no_kind (x ∷ xs) p = no_kind xs p

no_constant : (A : Ty) (xs : List (List ℕ)) (p : List ℕ) → block_in (map (λ x. a_constant x A) xs) p ≡ None
no_constant A [] p = refl
no_constant A (x ∷ xs) p = no_constant A xs p

no_predicate : (ps : List Constant) (p : List ℕ) → block_in (map predicate_of ps) p ≡ None
no_predicate [] p = refl
no_predicate (d ∷ ps) p = no_predicate ps p

-- A DEFINITION
defines_none : (D : Declarations) (inductive : Bool) (ds : List Defined) (cs : List written.Clause) (more : Declarations) → Defines D inductive ds cs more → HaveNoHash more
defines_none D inductive ds cs more d =
    let ps = d.predicates in
    let b = defined (block_with inductive ps d.clauses) in
    subst HaveNoHash (sym d.is) (behind_none (map predicate_of ps) (a_block b ∷ []) (nothing_defined (map predicate_of ps) (no_predicate ps)) (definition_none b (all_read (kinds_in D) (signature_with D ps) cs d.clauses d.meant)))

-- A COMMAND
pub declares_none : (D more : Declarations) (c : Command) → Declares D c more → HaveNoHash more
declares_none D more c (new_kinds {xs = xs} e) = nothing_defined (map a_kind xs) (no_kind xs)
declares_none D more c (new_constants {xs = xs} {A = A} e t d) = nothing_defined (map (λ x. a_constant x A) xs) (no_constant A xs)
declares_none D more c (new_predicates {inductive = i} {ds = ds} {cs = cs} d) = defines_none D i ds cs more d

-- FILES
item_none : (D more : Declarations) (i : Item) → ItemDeclares D i more → HaveNoHash more
item_none D more i (item.new_kinds d) = declares_none D more _ d
item_none D more i (item.new_constants d) = declares_none D more _ d
item_none D more i (new_clause {k = k} m) = nothing_defined (a_program_clause k ∷ []) (λ p. refl)
item_none D more i no_declaration = nothing_defined [] (λ p. refl)

pub files_none : (D more : Declarations) (items : List PlacedItem) → AllDeclare D items more → HaveNoHash D → HaveNoHash (D ++ more)
files_none D more items no_item none = subst HaveNoHash (sym (append-nil D)) none
files_none D all items (one_more {more = more} {rest = rest} {i = i} {is = is} d r) none =
    subst HaveNoHash (append_assoc D more rest) (files_none (D ++ more) rest is r (behind_none D more none (item_none D more i.item d)))

-- WHAT IS BUILT IN
pub first_none : HaveNoHash first_declarations
first_none = behind_none (declared first_entries) (a_block member_block ∷ []) (nothing_defined (declared first_entries) (block-declared first_entries)) member_none
  where
    member_none : HaveNoHash (a_block member_block ∷ [])
    member_none p b e = go (list_any (bytes_eq p) member_block.predicates) e
      where
        go : (t : Bool) → (if t then Some member_block else None) ≡ Some b → All (λ (c : cases.Clause (List ℕ)). HasNoHash c.body) b.clauses
        go true r =
            let same : member_block ≡ b = cc in
            subst (λ (x : Block). All (λ (c : cases.Clause (List ℕ)). HasNoHash c.body) x.clauses) same
            (All-cons (λ (c : cases.Clause (List ℕ)). HasNoHash c.body) member_first (member_later ∷ []) tt (All-cons (λ (c : cases.Clause (List ℕ)). HasNoHash c.body) member_later [] tt (All-nil (λ (c : cases.Clause (List ℕ)). HasNoHash c.body))))
        go false r = absurd (cc)

-- `member` STAYS DEFINED as it is built in
pub member_there : (D : Declarations) → Extends first_declarations D → MemberIsDefined D
member_there D more = record {
  block = member_block;
  found = ap (λ E. block_in E (codes "member")) more.1 ∙ block_in-append first_declarations more.0 (codes "member");
  clauses = refl;
}

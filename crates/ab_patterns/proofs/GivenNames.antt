-- Names as arguments.
use Rattle.std.proofs.Common.{◌≡◌, ℕ, ◌+◌, ◌<◌, List, [], ◌∷◌, ◌++◌, map, drop, length, get_or, codes, refl, sym, ◌∙◌, ap}
use Rattle.std.specs.List.{All}
use Rattle.std.proofs.lemmas.List.{map-append, append_assoc, append-nil, at_drop_more}
use Rattle.ab_term.specs.Types.{Ty, kind, arrow}
use Rattle.ab_term.specs.Terms as tree
use Rattle.ab_term.specs.Terms.{term, spine, terms_of, Read}
use Rattle.ab_term.specs.Expansion.{expansion}
use Rattle.ab_term.specs.Abstraction.{name_terms}
use Rattle.ab_norm.specs.ab_types.specs.Ids.{type_of}
use Rattle.ab_norm.specs.ab_types.specs.declared.ids.TypeId.{TypeId}
use Rattle.ab_norm.specs.ab_store.specs.declared.node.CellId.{CellId}
use Rattle.ab_norm.specs.ab_store.specs.declared.node.Head.TheVariants.{Cell}
use Rattle.ab_norm.specs.ab_store.specs.Reading.{cell_variable}
use Rattle.ab_unifiers.specs.Patterns.{applied}
use Rattle.ab_norm.specs.ab_types.specs.Entries.{Table}
use Rattle.ab_norm.specs.ab_store.specs.declared.node.TermId.{TermId}
use Rattle.ab_norm.specs.ab_store.specs.declared.node.Head.{Head}
use Rattle.ab_norm.specs.ab_store.specs.Trees.{Contents, Holds, cell_of, tree_of, head_in, head_reading}
use Rattle.ab_norm.specs.ab_store.specs.Growth.{IsExtendedBy}
use Rattle.ab_norm.proofs.Frame.{still_read_before}
use Rattle.ab_patterns.specs.ArgumentNames.{name_list}

pub listed_names : (x : List ℕ) (A : Ty) (hs : List (tree.Head ℕ)) → terms_of (name_list x A hs) ≡ name_terms x A hs
listed_names x A [] = refl
listed_names x (kind k) (h ∷ hs) = refl
listed_names x (arrow A B) (h ∷ hs) = ap (term (expansion x A h)) (listed_names x B hs)

pub no_names : (x : List ℕ) (A : Ty) (k : List ℕ) (hs : List (tree.Head ℕ)) (old whole : List Read) → A ≡ kind k → old ++ name_list x A hs ≡ whole → old ≡ whole
no_names x A k hs old whole is so_far = sym (ap (λ B. old ++ name_list x B hs) is ∙ ap (λ l. old ++ l) (none k hs) ∙ append-nil old) ∙ so_far
  where
    none : (k : List ℕ) (hs : List (tree.Head ℕ)) → name_list x (kind k) hs ≡ []
    none k [] = refl
    none k (h ∷ hs) = refl

-- one name more
pub one_given : (types : Table) (s0 s1 s2 : Contents) (x : List ℕ) (A B T : Ty) (names : List Head) (i : ℕ) (d : Head) (before pushed : List TermId) (form : TermId) (whole : List Read)
    → i < length names → T ≡ arrow A B → IsExtendedBy s1 s2 → All (Holds s1) before
    → tree_of types s2 form ≡ expansion x A (head_reading types s0 (get_or names i d))
    → pushed ≡ before ++ form ∷ []
    → map (tree_of types s1) before ++ name_list x T (map (head_reading types s0) (drop i names)) ≡ whole
    → map (tree_of types s2) pushed ++ name_list x B (map (head_reading types s0) (drop (i + 1) names)) ≡ whole
one_given types s0 s1 s2 x A B T names i d before pushed form whole l is more held made push so_far =
    let others = name_list x B (map (head_reading types s0) (drop (i + 1) names)) in
    ap (λ l. l ++ others) (ap (map (tree_of types s2)) push ∙ map-append (tree_of types s2) before (form ∷ []) ∙ ap (λ l. l ++ tree_of types s2 form ∷ []) (still_read_before types s1 s2 before more held))
    ∙ append_assoc (map (tree_of types s1) before) (tree_of types s2 form ∷ []) others
    ∙ ap (λ r. map (tree_of types s1) before ++ r ∷ others) made
    ∙ ap (λ l. map (tree_of types s1) before ++ l) (sym (ap (λ R. name_list x R (map (head_reading types s0) (drop i names))) is ∙ at_drop_more (λ hs. name_list x (arrow A B) (map (head_reading types s0) hs)) names i d l))
    ∙ so_far

-- the cell with all its names
pub applied_reads : (types : Table) (s0 s1 s2 : Contents) (cell : CellId) (ty : TypeId) (names : List Head) (nothing given : List TermId) (r : TermId) → s1.cells ≡ s0.cells → ty ≡ (cell_of s0 cell).ty → nothing ≡ []
    → map (tree_of types s1) given ≡ map (tree_of types s0) nothing ++ name_list (codes "x") (type_of types ty) (map (head_reading types s0) names)
    → tree_of types s2 r ≡ spine (head_reading types s1 (Cell cell)) (terms_of (map (tree_of types s1) given))
    → tree_of types s2 r ≡ applied (codes "x") (cell_variable types s0 cell) (map (head_reading types s0) names)
applied_reads types s0 s1 s2 cell ty names nothing given r cells is none args made =
    made
    ∙ ap (λ cs. spine (head_in types cs (Cell cell)) (terms_of (map (tree_of types s1) given))) cells
    ∙ ap (λ l. spine (tree.variable (cell_variable types s0 cell)) (terms_of l))
    (args
    ∙ ap (λ xs. map (tree_of types s0) xs ++ name_list (codes "x") (type_of types ty) (map (head_reading types s0) names)) none
    ∙ ap (λ a. name_list (codes "x") (type_of types a) (map (head_reading types s0) names)) is)
    ∙ ap (spine (tree.variable (cell_variable types s0 cell))) (listed_names (codes "x") (cell_variable types s0 cell).type (map (head_reading types s0) names))

-- BODIES OF CLAUSES FROM TEXTS have no judgement that coinduction marked: no head of them is such a mark.
use Rattle.std.proofs.Common.{◌≡◌, ℕ, zero, suc, List, [], ◌∷◌, ◌++◌, map, codes, Bool, true, false, if◌then◌else◌, Option, Some, None, bytes_eq, refl, sym, ◌∙◌, subst}
use Rattle.std.specs.Prelude.{All}
use Rattle.std.specs.List.{list_any}
use Rattle.std.proofs.lemmas.List.Elements.{All-weaker}
use Rattle.ab_term.specs.Terms.{variable, no_terms, Read}
use Rattle.ab_term.specs.Variables.{value_in, image}
use Rattle.ab_term.specs.Sameness.{same_number}
use Rattle.ab_term.proofs.ClosingImages.{close_has}
use Rattle.ab_term.proofs.Standing.{Has, expansion_of_has, image_by_has}
use Rattle.ab_unifiers.specs.Clauses as cases
use Rattle.ab_unifiers.specs.Clauses.{Each, numbered, put_together}
use Rattle.ab_unifiers.specs.Prefixes.{own_terms}
use Rattle.ab_unifiers.proofs.Covered.{found_of_all}
use Rattle.ab_unifiers.proofs.Rows.{together_all}
use Rattle.ab_formulas.specs.Clauses.{ClauseVariable}
use Rattle.ab_formulas.specs.CaseClauses.{in_terms, cell_of, case_of}
use Rattle.ab_formulas.specs.Declarations.{Declarations, Block, a_block, block_in}
use Rattle.ab_formulas.specs.Sequents as sequents
use Rattle.ab_formulas.proofs.Declaring.{or_else, block_in-append}
use Rattle.ab_theory.specs.Unfolding.{exists_all}
use Rattle.ab_meaning.specs.Normal.{normal_form}
use Rattle.ab_search_answers.specs.FromTexts.{numbered_by, IsBodyFromText, IsFromText}
use Rattle.ab_search_answers.specs.Unmarked.{HasNoHash, HaveNoHash}
use Rattle.ab_search_answers.proofs.Texts.{NoHash, NoneIn, NoneFound, NoneRaw, tree_none, reads_none, normal_none, formula_none}

-- closed by `exists`
exists_none : (ys : List sequents.Variable) (F : Read) → Has NoHash F → Has NoHash (exists_all ys F)
exists_none [] F p = p
exists_none (y ∷ ys) F p = (tt, (close_has NoHash NoHash zero (variable (sequents.in_terms y)) (λ g e q. q) (exists_all ys F) (exists_none ys F p), tt))

-- with the variables that case analysis has
own_none : (n : ℕ) (vs : List ClauseVariable) → Each (λ y t. Has NoHash t) (map in_terms vs) (own_terms (codes "x") (numbered n (map cell_of vs)))
own_none n [] = tt
own_none n (v ∷ vs) = (expansion_of_has NoHash (codes "x") v.type (variable (record { name = n; type = v.type })) no_terms tt tt, own_none (suc n) vs)

put_none : (vs : List ClauseVariable) (t : Read) → Has NoHash t → Has NoHash (image same_number (put_together (map in_terms vs) (own_terms (codes "x") (numbered 0 (map cell_of vs)))) t)
put_none vs t p =
    let own = own_terms (codes "x") (numbered 0 (map cell_of vs)) in
    let r = put_together (map in_terms vs) own in
    image_by_has NoHash NoHash (value_in same_number r) (record {
      constants = λ c q. q;
      logicals = λ l q. q;
      nominals = λ a q. q;
      stays = λ y e q. q;
      values = λ y u e q. found_of_all (Has NoHash) r (together_all (Has NoHash) (map in_terms vs) own (own_none 0 vs)) y u e;
    }) t p

-- A BODY FROM A TEXT
body_none : (F : Read) → IsBodyFromText F → Has NoHash F
body_none F b =
    let found : NoneIn b.named = subst NoneFound b.names (tree_none b.scope [] b.text) in
    let raw : NoneRaw b.raw = reads_none (numbered_by b.number) (λ x A. tt) b.types b.reads found in
    subst (Has NoHash) (sym b.is) (exists_none b.closed (normal_form b.signature [] b.raw) (normal_none b.signature [] b.raw no_terms raw tt))

pub clause_none : (c : cases.Clause (List ℕ)) → IsFromText c → HasNoHash c.body
clause_none c k = subst (λ (c : cases.Clause (List ℕ)). HasNoHash c.body) (sym k.2) (formula_none (case_of k.0).body (put_none (k.0).variables (k.0).body (body_none (k.0).body k.1)))

-- WHAT IS DECLARED BEHIND
pub behind_none : (D E : Declarations) → HaveNoHash D → HaveNoHash E → HaveNoHash (D ++ E)
behind_none D E d e p b h = go (block_in D p) refl (sym (block_in-append D E p) ∙ h)
  where
    go : (f : Option Block) → block_in D p ≡ f → or_else f (block_in E p) ≡ Some b → All (λ (c : cases.Clause (List ℕ)). HasNoHash c.body) b.clauses
    go None q r = e p b r
    go (Some c) q r = d p b (q ∙ r)

-- A DEFINITION FROM A TEXT
pub definition_none : (b : Block) → All IsFromText b.clauses → HaveNoHash (a_block b ∷ [])
definition_none b all p c e = go (list_any (bytes_eq p) b.predicates) e
  where
    go : (t : Bool) → (if t then Some b else None) ≡ Some c → All (λ (k : cases.Clause (List ℕ)). HasNoHash k.body) c.clauses
    go true r =
        let same : b ≡ c = cc in
        subst (λ (x : Block). All (λ (k : cases.Clause (List ℕ)). HasNoHash k.body) x.clauses) same (All-weaker IsFromText (λ (k : cases.Clause (List ℕ)). HasNoHash k.body) (λ k i. clause_none k i) b.clauses all)
    go false r = absurd (cc)

use Rattle.std.specs.List.{All}
use Rattle.std.proofs.Common.{◌≡◌, List, [], ◌∷◌, length, map, codes, arith, sym, ap, ◌∙◌, subst}
use Rattle.std.proofs.lemmas.List.Elements.{All-nil, All-cons}
use Rattle.ab_term.specs.Types.{o, olist}
use Rattle.ab_term.specs.Logical.{truth}
use Rattle.ab_term.specs.Terms.{logical, spine, terms_of}
use Rattle.ab_store.specs.declared.node.TermId.{TermId}
use Rattle.ab_store.specs.Trees.{HoldsCell, tree_of}
use Rattle.ab_store.proofs.Growing.{extended_on}
use Rattle.ab_unifiers.specs.Member.{clause_variable, before}
use Rattle.ab_typing.specs.DefinitionReadings.{variable_of}
use Rattle.ab_logic.specs.MemberDefinition.{kept_first}
use Rattle.ab_logic.proofs.Members.{two_terms, variable_later, own_variable, own_term}
use Rattle.ab_logic.proofs.member.first_clause.Goals as goal

pub returns-clause-reads : goal.returns-clause-reads
returns-clause-reads c = λ types are.
    let s1 = c.new_variable.new.store in
    let s2 = c.new_variable-2.new.store in
    let s3 = c.apply_to_two.new.store in
    let s4 = c.apply_to_two-2.new.store in
    let s5 = c.spine.new.self in
    let e12 = c.in_ok-l.ensures.before in
    let e23 = c.in_ok-list.ensures.before in
    let e34 = c.in_ok-head.ensures.before in
    let e45 = c.spine.ensures.before in
    let e35 = extended_on s3 s4 s5 e34 e45 in
    let e25 = extended_on s2 s3 s5 e23 e35 in
    let e15 = extended_on s1 s2 s5 e12 e25 in
    let e13 = extended_on s1 s2 s3 e12 e23 in
    let zero : length c.args.store.now.cells ≡ 0 = ap length c.requires in
    let one : length s1.cells ≡ 1 = omega (arith, c.in_ok-a.ensures.one, zero) in
    let a1 = own_term types s1 c.in_ok-a.a.term (length c.args.store.now.cells) 0 c.args.words.o o (c.in_ok-a.ensures.tree types) zero are.o_is in
    let l2 = own_term types s2 c.in_ok-l.l.term (length s1.cells) 1 c.args.words.olist olist (c.in_ok-l.ensures.tree types) one are.olist_is in
    let a2 = e12.trees types c.in_ok-a.a.term c.in_ok-a.ensures.term ∙ a1 in
    let a3 = e13.trees types c.in_ok-a.a.term c.in_ok-a.ensures.term ∙ a1 in
    let list3 : tree_of types s3 c.in_ok-list.list ≡ before (clause_variable 0 o) (clause_variable 1 olist) = c.in_ok-list.ensures.tree types ∙ two_terms types c.args.words.cons (codes "::") are.cons_is _ _ _ _ a2 l2 in
    let head5 : tree_of types s5 c.in_ok-head.head ≡ kept_first.head =
    e45.trees types c.in_ok-head.head c.in_ok-head.ensures.held ∙ c.in_ok-head.ensures.tree types ∙ two_terms types c.args.words.member (codes "member") are.member_is _ _ _ _ a3 list3 in
    let body5 : tree_of types s5 c.in_ok-body.body ≡ kept_first.body = c.in_ok-body.ensures.tree types ∙ ap (λ (ts : List TermId). spine (logical truth) (terms_of (map (tree_of types s4) ts))) c.new.ensures.items in
    let a5 = variable_later types s1 s5 e15 c.in_ok-a.a.cell c.in_ok-a.ensures.held ∙ own_variable types s1 c.in_ok-a.a.cell (length c.args.store.now.cells) 0 c.args.words.o o (codes "A") (c.in_ok-a.ensures.reads types) zero are.o_is in
    let l5 = variable_later types s2 s5 e25 c.in_ok-l.l.cell c.in_ok-l.ensures.held ∙ own_variable types s2 c.in_ok-l.l.cell (length s1.cells) 1 c.args.words.olist olist (codes "L") (c.in_ok-l.ensures.reads types) one are.olist_is in
    let own = c.from_vec.ensures ∙ c.in_ok-variables.ensures.items in
    ap (λ vs. record { variables = map (variable_of types s5) vs; head = tree_of types s5 c.in_ok-head.head; body = tree_of types s5 c.in_ok-body.body }) own
    ∙ ap (λ v. record { variables = v ∷ variable_of types s5 c.in_ok-l.l.cell ∷ []; head = tree_of types s5 c.in_ok-head.head; body = tree_of types s5 c.in_ok-body.body }) a5
    ∙ ap (λ v. record { variables = record { number = 0; type = o; hint = codes "A" } ∷ v ∷ []; head = tree_of types s5 c.in_ok-head.head; body = tree_of types s5 c.in_ok-body.body }) l5
    ∙ ap (λ t. record { variables = kept_first.variables; head = t; body = tree_of types s5 c.in_ok-body.body }) head5
    ∙ ap (λ t. record { variables = kept_first.variables; head = kept_first.head; body = t }) body5

pub returns-clause-held : goal.returns-clause-held
returns-clause-held c = λ types.
    let s1 = c.new_variable.new.store in
    let s2 = c.new_variable-2.new.store in
    let s3 = c.apply_to_two.new.store in
    let s4 = c.apply_to_two-2.new.store in
    let s5 = c.spine.new.self in
    let e12 = c.in_ok-l.ensures.before in
    let e23 = c.in_ok-list.ensures.before in
    let e34 = c.in_ok-head.ensures.before in
    let e45 = c.spine.ensures.before in
    let e35 = extended_on s3 s4 s5 e34 e45 in
    let e25 = extended_on s2 s3 s5 e23 e35 in
    let e15 = extended_on s1 s2 s5 e12 e25 in
    let own = c.from_vec.ensures ∙ c.in_ok-variables.ensures.items in
    record {
      variables =
          subst (All (HoldsCell s5)) (sym own)
          (All-cons (HoldsCell s5) c.in_ok-a.a.cell (c.in_ok-l.l.cell ∷ []) (e15.cell_ids c.in_ok-a.a.cell c.in_ok-a.ensures.held)
          (All-cons (HoldsCell s5) c.in_ok-l.l.cell [] (e25.cell_ids c.in_ok-l.l.cell c.in_ok-l.ensures.held) (All-nil (HoldsCell s5))));
      head = e45.ids c.in_ok-head.head c.in_ok-head.ensures.held;
      body = c.in_ok-body.ensures.held;
    }

pub returns-clause-before : goal.returns-clause-before
returns-clause-before c =
    let s1 = c.new_variable.new.store in
    let s2 = c.new_variable-2.new.store in
    let s3 = c.apply_to_two.new.store in
    let s4 = c.apply_to_two-2.new.store in
    let s5 = c.spine.new.self in
    let e12 = c.in_ok-l.ensures.before in
    let e23 = c.in_ok-list.ensures.before in
    let e34 = c.in_ok-head.ensures.before in
    let e45 = c.spine.ensures.before in
    let e35 = extended_on s3 s4 s5 e34 e45 in
    let e25 = extended_on s2 s3 s5 e23 e35 in
    let e15 = extended_on s1 s2 s5 e12 e25 in
    extended_on c.args.store.now s1 s5 c.in_ok-a.ensures.before e15

pub returns-clause-typed : goal.returns-clause-typed
returns-clause-typed c = λ types are typed.
    c.spine.ensures.typed types (c.in_ok-head.ensures.typed types are.member_held (c.in_ok-list.ensures.typed types are.cons_held (c.in_ok-l.ensures.typed types are.olist_held (c.in_ok-a.ensures.typed types are.o_held typed)))) tt

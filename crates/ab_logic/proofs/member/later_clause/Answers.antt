use Rattle.std.specs.List.{All}
use Rattle.std.proofs.Common.{◌≡◌, [], ◌∷◌, length, map, codes, arith, sym, ap, ◌∙◌, subst}
use Rattle.std.proofs.lemmas.List.Elements.{All-nil, All-cons}
use Rattle.ab_term.specs.Types.{o, olist}
use Rattle.ab_store.specs.Trees.{HoldsCell, tree_of}
use Rattle.ab_store.proofs.Growing.{extended_on}
use Rattle.ab_unifiers.specs.Member.{clause_variable, before}
use Rattle.ab_typing.specs.DefinitionReadings.{variable_of}
use Rattle.ab_logic.specs.MemberDefinition.{kept_later}
use Rattle.ab_logic.proofs.Members.{two_terms, variable_later, own_variable, own_term}
use Rattle.ab_logic.proofs.member.later_clause.Goals as goal

pub apply_to_two-requires-3-clause-first : goal.apply_to_two-requires-3-clause-first
apply_to_two-requires-3-clause-first c =
    let s1 = c.new_variable.new.store in
    let s2 = c.new_variable-2.new.store in
    let s3 = c.new_variable-3.new.store in
    let s4 = c.apply_to_two.new.store in
    let s5 = c.apply_to_two-2.new.store in
    let e12 = c.in_ok-b.ensures.before in
    let e23 = c.in_ok-l.ensures.before in
    let e34 = c.in_ok-list.ensures.before in
    let e45 = c.in_ok-head.ensures.before in
    let e13 = extended_on s1 s2 s3 e12 e23 in
    let e14 = extended_on s1 s3 s4 e13 e34 in
    let e15 = extended_on s1 s4 s5 e14 e45 in
    e15.ids c.in_ok-a.a.term c.in_ok-a.ensures.term

pub returns-clause-reads : goal.returns-clause-reads
returns-clause-reads c = λ types are.
    let s1 = c.new_variable.new.store in
    let s2 = c.new_variable-2.new.store in
    let s3 = c.new_variable-3.new.store in
    let s4 = c.apply_to_two.new.store in
    let s5 = c.apply_to_two-2.new.store in
    let e12 = c.in_ok-b.ensures.before in
    let e23 = c.in_ok-l.ensures.before in
    let e34 = c.in_ok-list.ensures.before in
    let e45 = c.in_ok-head.ensures.before in
    let e13 = extended_on s1 s2 s3 e12 e23 in
    let e14 = extended_on s1 s3 s4 e13 e34 in
    let e15 = extended_on s1 s4 s5 e14 e45 in
    let s6 = c.apply_to_two-3.new.store in
    let e56 = c.in_ok-body.ensures.before in
    let e35 = extended_on s3 s4 s5 e34 e45 in
    let e36 = extended_on s3 s5 s6 e35 e56 in
    let e26 = extended_on s2 s3 s6 e23 e36 in
    let e16 = extended_on s1 s5 s6 e15 e56 in
    let two : length c.args.store.now.cells ≡ 2 = c.requires in
    let three : length s1.cells ≡ 3 = omega (arith, c.in_ok-a.ensures.one, two) in
    let four : length s2.cells ≡ 4 = omega (arith, c.in_ok-b.ensures.one, three) in
    let a1 = own_term types s1 c.in_ok-a.a.term (length c.args.store.now.cells) 2 c.args.words.o o (c.in_ok-a.ensures.tree types) two are.o_is in
    let b2 = own_term types s2 c.in_ok-b.b.term (length s1.cells) 3 c.args.words.o o (c.in_ok-b.ensures.tree types) three are.o_is in
    let l3 = own_term types s3 c.in_ok-l.l.term (length s2.cells) 4 c.args.words.olist olist (c.in_ok-l.ensures.tree types) four are.olist_is in
    let a4 = e14.trees types c.in_ok-a.a.term c.in_ok-a.ensures.term ∙ a1 in
    let a5 = e15.trees types c.in_ok-a.a.term c.in_ok-a.ensures.term ∙ a1 in
    let b3 = e23.trees types c.in_ok-b.b.term c.in_ok-b.ensures.term ∙ b2 in
    let l5 = e35.trees types c.in_ok-l.l.term c.in_ok-l.ensures.term ∙ l3 in
    let list4 : tree_of types s4 c.in_ok-list.list ≡ before (clause_variable 3 o) (clause_variable 4 olist) = c.in_ok-list.ensures.tree types ∙ two_terms types c.args.words.cons (codes "::") are.cons_is _ _ _ _ b3 l3 in
    let head6 : tree_of types s6 c.in_ok-head.head ≡ kept_later.head =
    e56.trees types c.in_ok-head.head c.in_ok-head.ensures.held ∙ c.in_ok-head.ensures.tree types ∙ two_terms types c.args.words.member (codes "member") are.member_is _ _ _ _ a4 list4 in
    let body6 : tree_of types s6 c.in_ok-body.body ≡ kept_later.body = c.in_ok-body.ensures.tree types ∙ two_terms types c.args.words.member (codes "member") are.member_is _ _ _ _ a5 l5 in
    let a6 = variable_later types s1 s6 e16 c.in_ok-a.a.cell c.in_ok-a.ensures.held ∙ own_variable types s1 c.in_ok-a.a.cell (length c.args.store.now.cells) 2 c.args.words.o o (codes "A") (c.in_ok-a.ensures.reads types) two are.o_is in
    let b6 = variable_later types s2 s6 e26 c.in_ok-b.b.cell c.in_ok-b.ensures.held ∙ own_variable types s2 c.in_ok-b.b.cell (length s1.cells) 3 c.args.words.o o (codes "B") (c.in_ok-b.ensures.reads types) three are.o_is in
    let l6 = variable_later types s3 s6 e36 c.in_ok-l.l.cell c.in_ok-l.ensures.held ∙ own_variable types s3 c.in_ok-l.l.cell (length s2.cells) 4 c.args.words.olist olist (codes "L") (c.in_ok-l.ensures.reads types) four are.olist_is in
    let own = c.from_vec.ensures ∙ c.in_ok-variables.ensures.items in
    ap (λ vs. record { variables = map (variable_of types s6) vs; head = tree_of types s6 c.in_ok-head.head; body = tree_of types s6 c.in_ok-body.body }) own
    ∙ ap (λ v. record { variables = v ∷ variable_of types s6 c.in_ok-b.b.cell ∷ variable_of types s6 c.in_ok-l.l.cell ∷ []; head = tree_of types s6 c.in_ok-head.head; body = tree_of types s6 c.in_ok-body.body }) a6
    ∙ ap (λ v. record { variables = record { number = 2; type = o; hint = codes "A" } ∷ v ∷ variable_of types s6 c.in_ok-l.l.cell ∷ []; head = tree_of types s6 c.in_ok-head.head; body = tree_of types s6 c.in_ok-body.body }) b6
    ∙ ap (λ v. record { variables = record { number = 2; type = o; hint = codes "A" } ∷ record { number = 3; type = o; hint = codes "B" } ∷ v ∷ []; head = tree_of types s6 c.in_ok-head.head; body = tree_of types s6 c.in_ok-body.body }) l6
    ∙ ap (λ t. record { variables = kept_later.variables; head = t; body = tree_of types s6 c.in_ok-body.body }) head6
    ∙ ap (λ t. record { variables = kept_later.variables; head = kept_later.head; body = t }) body6

pub returns-clause-held : goal.returns-clause-held
returns-clause-held c = λ types.
    let s1 = c.new_variable.new.store in
    let s2 = c.new_variable-2.new.store in
    let s3 = c.new_variable-3.new.store in
    let s4 = c.apply_to_two.new.store in
    let s5 = c.apply_to_two-2.new.store in
    let e12 = c.in_ok-b.ensures.before in
    let e23 = c.in_ok-l.ensures.before in
    let e34 = c.in_ok-list.ensures.before in
    let e45 = c.in_ok-head.ensures.before in
    let e13 = extended_on s1 s2 s3 e12 e23 in
    let e14 = extended_on s1 s3 s4 e13 e34 in
    let e15 = extended_on s1 s4 s5 e14 e45 in
    let s6 = c.apply_to_two-3.new.store in
    let e56 = c.in_ok-body.ensures.before in
    let e35 = extended_on s3 s4 s5 e34 e45 in
    let e36 = extended_on s3 s5 s6 e35 e56 in
    let e26 = extended_on s2 s3 s6 e23 e36 in
    let e16 = extended_on s1 s5 s6 e15 e56 in
    let own = c.from_vec.ensures ∙ c.in_ok-variables.ensures.items in
    record {
      variables =
          subst (All (HoldsCell s6)) (sym own)
          (All-cons (HoldsCell s6) c.in_ok-a.a.cell (c.in_ok-b.b.cell ∷ c.in_ok-l.l.cell ∷ []) (e16.cell_ids c.in_ok-a.a.cell c.in_ok-a.ensures.held)
          (All-cons (HoldsCell s6) c.in_ok-b.b.cell (c.in_ok-l.l.cell ∷ []) (e26.cell_ids c.in_ok-b.b.cell c.in_ok-b.ensures.held)
          (All-cons (HoldsCell s6) c.in_ok-l.l.cell [] (e36.cell_ids c.in_ok-l.l.cell c.in_ok-l.ensures.held) (All-nil (HoldsCell s6)))));
      head = e56.ids c.in_ok-head.head c.in_ok-head.ensures.held;
      body = c.in_ok-body.ensures.held;
    }

pub returns-clause-before : goal.returns-clause-before
returns-clause-before c =
    let s1 = c.new_variable.new.store in
    let s2 = c.new_variable-2.new.store in
    let s3 = c.new_variable-3.new.store in
    let s4 = c.apply_to_two.new.store in
    let s5 = c.apply_to_two-2.new.store in
    let e12 = c.in_ok-b.ensures.before in
    let e23 = c.in_ok-l.ensures.before in
    let e34 = c.in_ok-list.ensures.before in
    let e45 = c.in_ok-head.ensures.before in
    let e13 = extended_on s1 s2 s3 e12 e23 in
    let e14 = extended_on s1 s3 s4 e13 e34 in
    let e15 = extended_on s1 s4 s5 e14 e45 in
    let s6 = c.apply_to_two-3.new.store in
    let e56 = c.in_ok-body.ensures.before in
    let e35 = extended_on s3 s4 s5 e34 e45 in
    let e36 = extended_on s3 s5 s6 e35 e56 in
    let e26 = extended_on s2 s3 s6 e23 e36 in
    let e16 = extended_on s1 s5 s6 e15 e56 in
    extended_on c.args.store.now s1 s6 c.in_ok-a.ensures.before e16

pub returns-clause-typed : goal.returns-clause-typed
returns-clause-typed c = λ types are typed.
    c.in_ok-body.ensures.typed types are.member_held (c.in_ok-head.ensures.typed types are.member_held (c.in_ok-list.ensures.typed types are.cons_held (c.in_ok-l.ensures.typed types are.olist_held (c.in_ok-b.ensures.typed types are.o_held (c.in_ok-a.ensures.typed types are.o_held typed)))))

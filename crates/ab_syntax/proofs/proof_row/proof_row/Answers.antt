use Rattle.std.proofs.Common.{◌≡◌, ◌⊎◌, inl, inr, List}
use Rattle.std.proofs.lemmas.Result.{err_from_is_err_and}
use Rattle.ab_grammar.specs.CommandForms.{Many, OneOrMore}
use Rattle.ab_grammar.specs.Language.{Expression}
use Rattle.ab_grammar.proofs.Following.{Followed, Without, BeforeStop}
use Rattle.ab_grammar.specs.CommandTable.{Name, ShowsName, ProofRow}
use Rattle.ab_grammar.proofs.Beginnings.{followed_by_stop}
use Rattle.ab_grammar.proofs.Choosing.{fewer_reads}
use Rattle.ab_grammar.proofs.Choices as choices
use Rattle.ab_grammar.specs.declared.head.ProofHead.{ProofHead}
use Rattle.ab_grammar.specs.declared.head.ProofHead.TheVariants as head
use Rattle.ab_grammar.specs.Token.{Token}
use Rattle.ab_grammar.specs.CommandTrees as tree
use Rattle.ab_grammar.proofs.Continuing.{Continues}
use Rattle.ab_expressions.specs.Reader.{rest}
use Rattle.ab_syntax.proofs.Followers.{no_name_at_end}
use Rattle.ab_syntax.proofs.Passing.{refused_on, refused_fewer, as_they_are}
use Rattle.ab_syntax.proofs.proof_row.proof_row.Goals as goal

pub returns-in_ok-take_all-in-Intros : goal.returns-in_ok-take_all-in-Intros
returns-in_ok-take_all-in-Intros c = rw c.in-Intros.is ((choices.intros (rest c.args.text.now c.args.here.now)).reads _ _ (fewer_reads (Many Name) (Without ShowsName) BeforeStop no_name_at_end _ _ _ (as_they_are (Many Name) (Without ShowsName) _ _ _ c.in_ok-take_all-in-Intros.ensures)))

pub returns-in-Induction : goal.returns-in-Induction
returns-in-Induction c = rw c.in-Induction.is (c.induction.ensures)

pub returns-in-Case : goal.returns-in-Case
returns-in-Case c = rw c.in-Case.is (c.case.ensures)

pub returns-in-Apply : goal.returns-in-Apply
returns-in-Apply c = rw c.in-Apply.is (c.apply.ensures)

pub returns-in-Backchain : goal.returns-in-Backchain
returns-in-Backchain c = rw c.in-Backchain.is (c.backchain.ensures)

pub returns-in-Cut : goal.returns-in-Cut
returns-in-Cut c = rw c.in-Cut.is (c.cut.ensures)

pub returns-in-Inst : goal.returns-in-Inst
returns-in-Inst c = rw c.in-Inst.is (c.inst.ensures)

pub returns-in-Monotone : goal.returns-in-Monotone
returns-in-Monotone c = rw c.in-Monotone.is (c.monotone.ensures)

pub returns-in-Split : goal.returns-in-Split
returns-in-Split c = rw c.in-Split.is (c.split.ensures)

pub returns-in-Rename : goal.returns-in-Rename
returns-in-Rename c = rw c.in-Rename.is (c.rename.ensures)

pub returns-in-Permute : goal.returns-in-Permute
returns-in-Permute c = rw c.in-Permute.is (c.permute.ensures)

pub returns-in-Coinduction : goal.returns-in-Coinduction
returns-in-Coinduction c = rw c.in-Coinduction.is (choices.coinduction (rest c.args.text.now c.args.here.now))

pub returns-in-Skip : goal.returns-in-Skip
returns-in-Skip c = rw c.in-Skip.is (choices.skip (rest c.args.text.now c.args.here.now))

pub returns-in-Left : goal.returns-in-Left
returns-in-Left c = rw c.in-Left.is (choices.left (rest c.args.text.now c.args.here.now))

pub returns-in-Right : goal.returns-in-Right
returns-in-Right c = rw c.in-Right.is (choices.right (rest c.args.text.now c.args.here.now))

pub returns-in-Unfold : goal.returns-in-Unfold
returns-in-Unfold c = rw c.in-Unfold.is (choices.unfold_goal (rest c.args.text.now c.args.here.now))

pub returns-in_err-optional_depth-in-Search : goal.returns-in_err-optional_depth-in-Search
returns-in_err-optional_depth-in-Search c =
    let p = err_from_is_err_and c.from_residual-in_err-optional_depth-in-Search.result c.from_residual-in_err-optional_depth-in-Search.ensures.1 in
    rw (p.1, p.2, c.in-Search.is) (refused_on (choices.search (rest c.args.text.now c.args.here.now)) _ _ c.in_err-optional_depth-in-Search.ensures)

pub returns-in_ok-optional_depth-in-Search : goal.returns-in_ok-optional_depth-in-Search
returns-in_ok-optional_depth-in-Search c = rw c.in-Search.is ((choices.search (rest c.args.text.now c.args.here.now)).reads _ _ c.in_ok-optional_depth-in-Search.ensures)

-- both words give a term
with_term : (h : ProofHead) → (h ≡ head.Exists) ⊎ (h ≡ head.Witness) → (ks : List Token) → Continues Expression (ProofRow h) BeforeStop (λ t. tree.exists t) ks ks
with_term h (inl e) ks = rw e (choices.exists ks)
with_term h (inr e) ks = rw e (choices.witness ks)

pub returns-in_err-read_expression-in-Exists : goal.returns-in_err-read_expression-in-Exists
returns-in_err-read_expression-in-Exists c =
    let p = err_from_is_err_and c.from_residual-in_err-read_expression-in-Exists.result c.from_residual-in_err-read_expression-in-Exists.ensures.1 in
    rw (p.1, p.2) (refused_on (with_term c.args.head c.in-Exists.is (rest c.args.text.now c.args.here.now)) _ _ (refused_fewer Expression Followed BeforeStop followed_by_stop _ _ _ c.in_err-read_expression-in-Exists.ensures))

pub returns-in_ok-read_expression-in-Exists : goal.returns-in_ok-read_expression-in-Exists
returns-in_ok-read_expression-in-Exists c = (with_term c.args.head c.in-Exists.is (rest c.args.text.now c.args.here.now)).reads _ _ (fewer_reads Expression Followed BeforeStop followed_by_stop _ _ _ c.in_ok-read_expression-in-Exists.ensures)

pub returns-in_err-read_expression-in-Assert : goal.returns-in_err-read_expression-in-Assert
returns-in_err-read_expression-in-Assert c =
    let p = err_from_is_err_and c.from_residual-in_err-read_expression-in-Assert.result c.from_residual-in_err-read_expression-in-Assert.ensures.1 in
    rw (p.1, p.2, c.in-Assert.is) (refused_on (choices.assert (rest c.args.text.now c.args.here.now)) _ _ (refused_fewer Expression Followed BeforeStop followed_by_stop _ _ _ c.in_err-read_expression-in-Assert.ensures))

pub returns-in_ok-read_expression-in-Assert : goal.returns-in_ok-read_expression-in-Assert
returns-in_ok-read_expression-in-Assert c = rw c.in-Assert.is ((choices.assert (rest c.args.text.now c.args.here.now)).reads _ _ (fewer_reads Expression Followed BeforeStop followed_by_stop _ _ _ c.in_ok-read_expression-in-Assert.ensures))

pub returns-in_err-take_some-in-Clear : goal.returns-in_err-take_some-in-Clear
returns-in_err-take_some-in-Clear c =
    let p = err_from_is_err_and c.from_residual-in_err-take_some-in-Clear.result c.from_residual-in_err-take_some-in-Clear.ensures.1 in
    rw (p.1, p.2, c.in-Clear.is) (refused_on (choices.clear (rest c.args.text.now c.args.here.now)) _ _ (refused_fewer (OneOrMore Name) (Without ShowsName) BeforeStop no_name_at_end _ _ _ c.in_err-take_some-in-Clear.ensures))

pub returns-in_ok-take_some-in-Clear : goal.returns-in_ok-take_some-in-Clear
returns-in_ok-take_some-in-Clear c = rw c.in-Clear.is ((choices.clear (rest c.args.text.now c.args.here.now)).reads _ _ (fewer_reads (OneOrMore Name) (Without ShowsName) BeforeStop no_name_at_end _ _ _ (as_they_are (OneOrMore Name) (Without ShowsName) _ _ _ c.in_ok-take_some-in-Clear.ensures)))

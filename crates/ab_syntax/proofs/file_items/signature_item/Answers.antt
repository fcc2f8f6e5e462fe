use Rattle.std.proofs.Common.{ℕ, List, codes, map, ap, sym, ◌∙◌, subst}
use Rattle.std.proofs.lemmas.List.{map-id}
use Rattle.std.proofs.lemmas.Result.{err_from_is_err_and}
use Rattle.ab_grammar.specs.Token.{Token, word, comma, other, type_word}
use Rattle.ab_grammar.specs.Language.{TypeExpression}
use Rattle.ab_grammar.specs.declared.file.FileKind.TheVariants.{Signature}
use Rattle.ab_grammar.specs.FileTable.{ItemForm}
use Rattle.ab_grammar.specs.CommandTable.{StandsAnywhere, DeclaredNames}
use Rattle.ab_grammar.proofs.Following.{first, Followed, Except, Without, BeforeStop}
use Rattle.ab_grammar.proofs.Beginnings.{followed_by_stop}
use Rattle.ab_grammar.proofs.Choosing.{fewer_reads}
use Rattle.ab_grammar.proofs.FileRows.{names_and_key, names_and_type, with_constants, with_kinds, with_signatures, behind_kind, behind_type, behind_accumulation}
use Rattle.ab_expressions.specs.declared.items.Items.{Items}
use Rattle.ab_expressions.specs.Items.{list_of}
use Rattle.ab_expressions.specs.Reader.{rest}
use Rattle.ab_syntax.proofs.Passing.{refused_on, refused_first, refused_fewer, found_said, refused_from, as_they_are, closed_found}
use Rattle.ab_syntax.proofs.Repeating.{taken, left_there, key_taken}
use Rattle.ab_syntax.proofs.WordsTaken.{word_taken, no_word_taken}
use Rattle.ab_syntax.proofs.file_items.signature_item.Goals as goal

-- constants

pub returns-in_err-constants : goal.returns-in_err-constants
returns-in_err-constants c =
    let p = err_from_is_err_and c.from_residual.result c.from_residual.ensures.1 in
    let ks = rest c.args.text.now c.args.here.now in
    let there = taken (other type_word) ks (rest c.args.text.now c.takes.new.here) c.takes.result c.if-takes.true c.takes.ensures in
    let behind = behind_type.first_read _ _ tt (key_taken _ _ _ there) in
    rw (p.1, p.2) (refused_on (with_constants ks (ap first there)) _ _ (refused_on behind _ _ (refused_first names_and_type _ _ _ c.in_err-constants.ensures)))

pub returns-in_err-ty : goal.returns-in_err-ty
returns-in_err-ty c =
    let p = err_from_is_err_and c.from_residual-in_err-ty.result c.from_residual-in_err-ty.ensures.1 in
    let ks = rest c.args.text.now c.args.here.now in
    let there = taken (other type_word) ks (rest c.args.text.now c.takes.new.here) c.takes.result c.if-takes.true c.takes.ensures in
    let behind = behind_type.first_read _ _ tt (key_taken _ _ _ there) in
    let named = names_and_type.first_read _ _ _ (as_they_are DeclaredNames (Except comma) _ _ _ c.in_ok-constants.ensures) in
    rw (p.1, p.2) (refused_on (with_constants ks (ap first there)) _ _ (refused_on behind _ _ (refused_on named _ _ (refused_fewer TypeExpression Followed BeforeStop followed_by_stop _ _ _ c.in_err-ty.ensures))))

pub returns-then-takes : goal.returns-then-takes
returns-then-takes c =
    let ks = rest c.args.text.now c.args.here.now in
    let there = taken (other type_word) ks (rest c.args.text.now c.takes.new.here) c.takes.result c.if-takes.true c.takes.ensures in
    let behind = behind_type.first_read _ _ tt (key_taken _ _ _ there) in
    let named = names_and_type.first_read _ _ _ (as_they_are DeclaredNames (Except comma) _ _ _ c.in_ok-constants.ensures) in
    (with_constants ks (ap first there)).reads _ _ (behind.reads _ _ (named.reads _ _ (fewer_reads TypeExpression Followed BeforeStop followed_by_stop _ _ _ c.in_ok-ty.ensures)))

-- kinds

pub returns-in_err-declared : goal.returns-in_err-declared
returns-in_err-declared c =
    let p = err_from_is_err_and c.from_residual-in_err-declared.result c.from_residual-in_err-declared.ensures.1 in
    let ks = rest c.args.text.now c.args.here.now in
    let ms = rest c.args.text.now c.takes.new.here in
    let left = left_there (other type_word) ks ms c.takes.result c.if-takes.false c.takes.ensures in
    let there = word_taken (codes "kind") ms _ c.takes_word.result c.if-takes_word.true c.takes_word.ensures in
    let behind = behind_kind.first_read _ _ tt there.1 in
    let names = found_said DeclaredNames (Except comma) (λ (xs : Items (List ℕ)). map (λ (x : List ℕ). x) (list_of xs)) list_of (λ xs. map-id (list_of xs)) _ _ c.items-kinds.result c.items-kinds.ensures in
    let read = closed_found (other type_word) names_and_key list_of _ _ _ c.items-kinds.result c.close_part.result names c.close_part.ensures in
    rw (p.1, p.2) (refused_from (ItemForm Signature) BeforeStop _ _ _ _ left.1 (refused_on (with_kinds ms there.0) _ _ (refused_on behind _ _ (rw c.in_err-declared.was at read))))

pub returns-then-takes_word : goal.returns-then-takes_word
returns-then-takes_word c =
    let ks = rest c.args.text.now c.args.here.now in
    let ms = rest c.args.text.now c.takes.new.here in
    let left = left_there (other type_word) ks ms c.takes.result c.if-takes.false c.takes.ensures in
    let there = word_taken (codes "kind") ms _ c.takes_word.result c.if-takes_word.true c.takes_word.ensures in
    let behind = behind_kind.first_read _ _ tt there.1 in
    let names = found_said DeclaredNames (Except comma) (λ (xs : Items (List ℕ)). map (λ (x : List ℕ). x) (list_of xs)) list_of (λ xs. map-id (list_of xs)) _ _ c.items-kinds.result c.items-kinds.ensures in
    let read = closed_found (other type_word) names_and_key list_of _ _ _ c.items-kinds.result c.close_part.result names c.close_part.ensures in
    rw left.1 at ((with_kinds ms there.0).reads _ _ (behind.reads _ _ (rw c.in_ok-declared.was at read)))

-- other files

pub returns-in_err-keyword : goal.returns-in_err-keyword
returns-in_err-keyword c =
    let p = err_from_is_err_and c.from_residual-in_err-keyword.result c.from_residual-in_err-keyword.ensures.1 in
    let ks = rest c.args.text.now c.args.here.now in
    let ms = rest c.args.text.now c.takes.new.here in
    let ns = rest c.args.text.now c.takes_word.new.here in
    let left = left_there (other type_word) ks ms c.takes.result c.if-takes.false c.takes.ensures in
    let none = no_word_taken (codes "kind") ms ns c.takes_word.result c.if-takes_word.false c.takes_word.ensures in
    let no_type = subst (λ (w : List Token). Except (other type_word) w) (sym (none.1 ∙ left.1)) left.0 in
    let no_kind = subst (λ (w : List Token). Without (StandsAnywhere (word (codes "kind"))) w) (sym none.1) none.0 in
    rw (p.1, p.2) (refused_from (ItemForm Signature) BeforeStop _ _ _ _ (none.1 ∙ left.1) (refused_on (with_signatures ns no_type no_kind) _ _ (refused_first (behind_accumulation (codes "accum_sig")) _ _ _ c.in_err-keyword.ensures)))

pub returns-in_err-files : goal.returns-in_err-files
returns-in_err-files c =
    let p = err_from_is_err_and c.from_residual-in_err-files.result c.from_residual-in_err-files.ensures.1 in
    let ks = rest c.args.text.now c.args.here.now in
    let ms = rest c.args.text.now c.takes.new.here in
    let ns = rest c.args.text.now c.takes_word.new.here in
    let left = left_there (other type_word) ks ms c.takes.result c.if-takes.false c.takes.ensures in
    let none = no_word_taken (codes "kind") ms ns c.takes_word.result c.if-takes_word.false c.takes_word.ensures in
    let no_type = subst (λ (w : List Token). Except (other type_word) w) (sym (none.1 ∙ left.1)) left.0 in
    let no_kind = subst (λ (w : List Token). Without (StandsAnywhere (word (codes "kind"))) w) (sym none.1) none.0 in
    let behind = (behind_accumulation (codes "accum_sig")).first_read _ _ _ c.in_ok-keyword.ensures in
    rw (p.1, p.2) (refused_from (ItemForm Signature) BeforeStop _ _ _ _ (none.1 ∙ left.1) (refused_on (with_signatures ns no_type no_kind) _ _ (refused_on behind _ _ c.in_err-files.ensures)))

pub returns : goal.returns
returns c =
    let ks = rest c.args.text.now c.args.here.now in
    let ms = rest c.args.text.now c.takes.new.here in
    let ns = rest c.args.text.now c.takes_word.new.here in
    let left = left_there (other type_word) ks ms c.takes.result c.if-takes.false c.takes.ensures in
    let none = no_word_taken (codes "kind") ms ns c.takes_word.result c.if-takes_word.false c.takes_word.ensures in
    let no_type = subst (λ (w : List Token). Except (other type_word) w) (sym (none.1 ∙ left.1)) left.0 in
    let no_kind = subst (λ (w : List Token). Without (StandsAnywhere (word (codes "kind"))) w) (sym none.1) none.0 in
    let behind = (behind_accumulation (codes "accum_sig")).first_read _ _ _ c.in_ok-keyword.ensures in
    rw (none.1 ∙ left.1) at ((with_signatures ns no_type no_kind).reads _ _ (behind.reads _ _ c.in_ok-files.ensures))

-- Every list of tokens has an answer as a title and as an item of a specification file: something is found of each form.
use Rattle.std.proofs.Common.{ℕ, List, None, codes, ◌⊎◌, inl, inr}
use Rattle.ab_grammar.specs.declared.file.FileKind.{FileKind}
use Rattle.ab_grammar.specs.declared.file.FileKind.TheVariants.{Signature, Module}
use Rattle.ab_grammar.specs.Token.{Token, word, comma, other, stop, from, type_word}
use Rattle.ab_grammar.specs.Language.{Expression}
use Rattle.ab_grammar.specs.CommandForms.{◌▸◌, ◌◂◌}
use Rattle.ab_grammar.specs.CommandTable.{StandsAnywhere, Name, DeclaredNames, Word, Sign}
use Rattle.ab_grammar.specs.FileTable.{Names, title_word, TitleText, Goals, GoalBody, ProgramClause, ItemForm, ItemText}
use Rattle.ab_grammar.proofs.Following.{Anything, Followed, Except, Showing, Without, BeforeStop}
use Rattle.ab_grammar.proofs.FileRows.{title, names_and_key, names_and_type, goals_example, with_goals, no_goals, goals_joined, program_clause, with_constants, with_kinds, with_signatures, behind_kind, behind_type, behind_accumulation, with_modules, with_clause, whole_item}
use Rattle.ab_language_laws.specs.TextAnswers.{HasAnswer}
use Rattle.ab_language_laws.proofs.Followers.{stop_no_comma, goal_ends}
use Rattle.ab_language_laws.proofs.Outcomes.{Outcome, is_read, Total, onwards, two}
use Rattle.ab_language_laws.proofs.Walk.{answer}
use Rattle.ab_language_laws.proofs.Shows.{is_comma, is_stop, is_from, is_type, word_shown, next_shown}
use Rattle.ab_language_laws.proofs.Parts.{key, separated}
use Rattle.ab_language_laws.proofs.Both.{expression_found}
use Rattle.ab_language_laws.proofs.Commands.{found_name, found_word, itself, type_before_stop, name_then, declared_names, keyed, by_told}

-- Titles

found_title : (f : FileKind) → Total (TitleText f) Followed
found_title f = itself (TitleText f) Followed (two (title f) (name_then (other stop) is_stop) (found_word (title_word f)))

pub title_answer : (f : FileKind) (ts : List Token) → HasAnswer (TitleText f) ts
title_answer f = answer (TitleText f) (found_title f)

-- Parts of items

file_names : Total Names BeforeStop
file_names ks = separated comma Name Anything BeforeStop is_comma stop_no_comma (λ r f. tt) found_name ks

accumulation : (x : List ℕ) → Total (Word x ▸ Names) BeforeStop
accumulation x = two (behind_accumulation x) file_names (found_word x)

found_kinds : Total (Word (codes "kind") ▸ (DeclaredNames ◂ Sign type_word)) BeforeStop
found_kinds = two behind_kind (two names_and_key (itself (Sign type_word) BeforeStop (key (other type_word) is_type)) declared_names) (found_word (codes "kind"))

found_goals : Total Goals BeforeStop
found_goals ks = onwards (goals_joined ks) (separated comma Expression Followed BeforeStop is_comma stop_no_comma goal_ends expression_found ks)

goal_body : Total GoalBody BeforeStop
goal_body ks = by_told GoalBody BeforeStop (other from) is_from ks
    (λ e. onwards (with_goals ks e) (keyed (other from) is_from Goals BeforeStop goals_example found_goals ks))
    (λ n. is_read None ks (no_goals ks n))

found_clause : Total ProgramClause BeforeStop
found_clause = two program_clause goal_body expression_found

-- the word comes next, or it doesn't
abbrev Next : List ℕ → List Token → Type 0
Next x ks = ((u : Unit {0}) × Showing (StandsAnywhere (word x)) u ks) ⊎ Without (StandsAnywhere (word x)) ks

next_word : (x : List ℕ) (ks : List Token) → Next x ks
next_word x ks = next_shown (StandsAnywhere (word x)) (word_shown x) ks

-- Items

by_kind : (ks : List Token) → Except (other type_word) ks → Next (codes "kind") ks → Outcome (ItemForm Signature) BeforeStop ks
by_kind ks n (inl (u, s)) = onwards (with_kinds ks s) (found_kinds ks)
by_kind ks n (inr m) = onwards (with_signatures ks n m) (accumulation (codes "accum_sig") ks)

by_accumulate : (ks : List Token) → Next (codes "accumulate") ks → Outcome (ItemForm Module) BeforeStop ks
by_accumulate ks (inl (u, s)) = onwards (with_modules ks s) (accumulation (codes "accumulate") ks)
by_accumulate ks (inr n) = onwards (with_clause ks n) (found_clause ks)

found_item : (f : FileKind) → Total (ItemForm f) BeforeStop
found_item Signature ks = by_told (ItemForm Signature) BeforeStop (other type_word) is_type ks
    (λ e. onwards (with_constants ks e) (two behind_type (two names_and_type type_before_stop declared_names) (key (other type_word) is_type) ks))
    (λ n. by_kind ks n (next_word (codes "kind") ks))
found_item Module ks = by_accumulate ks (next_word (codes "accumulate") ks)

item_found : (f : FileKind) → Total (ItemText f) Followed
item_found f = two (whole_item f) (itself (Sign stop) Followed (key (other stop) is_stop)) (found_item f)

pub item_answer : (f : FileKind) (ts : List Token) → HasAnswer (ItemText f) ts
item_answer f = answer (ItemText f) (item_found f)

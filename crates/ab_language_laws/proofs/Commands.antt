-- Every list of tokens has an answer as a command: something is found of each form of the table.
use Rattle.std.proofs.Common.{◌≡◌, ℕ, List, [], ◌∷◌, ◌++◌, Bool, true, false, None, IsTrue, refl, subst, codes, ◌⊎◌, inl, inr}
use Rattle.ab_grammar.specs.declared.Infix.TheVariants.{Equal}
use Rattle.ab_grammar.specs.declared.head.Head.{Head}
use Rattle.ab_grammar.specs.declared.head.Head.TheVariants as head
use Rattle.ab_grammar.specs.declared.head.ProofHead.{ProofHead}
use Rattle.ab_grammar.specs.declared.head.ProofHead.TheVariants as proof
use Rattle.ab_grammar.specs.Token.{Token, word, sign, left_paren, right_paren, comma, colon, other, stop, semicolon, becomes, star, by_word, to_word, with_word, on_word, type_word}
use Rattle.ab_grammar.specs.Nesting.{Spot, lone}
use Rattle.ab_grammar.specs.Language.{Key, the_key, Expression, TypeExpression}
use Rattle.ab_grammar.specs.CommandTrees as tree
use Rattle.ab_grammar.specs.CommandForms.{One, joined, Optional, Many, no_more, OneOrMore, ◌▸◌, ◌◂◌}
use Rattle.ab_grammar.specs.CommandTable.{Row, ProofRow, Name, DeclaredName, DeclaredNames, Word, Sign, Definiendum, Definienda, ClauseBody, ClauseForm, Clauses, Definition, InstanceForm, InstanceList, Instances, Arguments, Keep, Nominals, OptionalName, OptionalDepth, OptionalLimit, Numbers, Switch, ShowsName, ShowsDeclared, ShowsNominal, ShowsArgument, ShowsNumber, ShowsDepth, ShowsLimit, ShowsText, StandsAnywhere, Opens, OpensProof, takes_label, ShowsLabel, LabelledForm, CommandForm, CommandText}
use Rattle.ab_grammar.proofs.Following.{Comes, Except, Showing, Without, Anything, Followed, BeforeStop, ClauseEnds, DepthEnds, ArgumentsEnd}
use Rattle.ab_grammar.proofs.Reading.{ungrammatical, too_nested}
use Rattle.ab_grammar.proofs.Joining.{Example}
use Rattle.ab_grammar.proofs.Shown.{one_name, name_example, one_declared, declared_example, one_nominal, nominal_example, one_argument, argument_example, one_number, number_example, one_depth, depth_example, one_limit, limit_example, one_text, text_example, one_placed, placed_example}
use Rattle.ab_grammar.proofs.Looping.{token_apart}
use Rattle.ab_grammar.proofs.Beginnings.{followed_by_stop, expression_example}
use Rattle.ab_language_laws.proofs.Followers.{by_no_comma, definiendum_ends, stop_no_comma, instance_ends, stop_no_semicolon, clause_ends, names_end, numbers_end, arguments_end}
use Rattle.ab_grammar.proofs.Rows.{TwoParts, two_parts, name_and, declared_and, definiendum, instance_form, clause_form, definienda_by, definition, applied, opened_nominals, nominals, keep, clause_end_follows, instance_list_example}
use Rattle.ab_grammar.proofs.Rows as rows
use Rattle.ab_grammar.proofs.Choices as choices
use Rattle.ab_grammar.proofs.Heads.{no_command, no_labelled, one_proof_head, plain_no_proof, proof_no_label}
use Rattle.ab_grammar.proofs.WholeCommands.{plain_row, proof_row, labelled_row, label_row, colon_refused, whole_command}
use Rattle.ab_language_laws.specs.TextAnswers.{HasAnswer}
use Rattle.ab_language_laws.proofs.Outcomes.{Outcome, is_read, is_stopped, is_deep, Total, onwards, two, fewer}
use Rattle.ab_language_laws.proofs.Walk.{answer}
use Rattle.ab_language_laws.proofs.Shows.{IsTold, is_left_paren, is_right_paren, is_comma, is_colon, is_equal, is_stop, is_semicolon, is_becomes, is_star, is_by, is_to, is_with, is_on, is_type, name_shown, declared_shown, nominal_shown, argument_shown, number_shown, depth_shown, limit_shown, text_shown, word_shown, next_told, none_at_end, none_next, next_shown}
use Rattle.ab_language_laws.proofs.Parts.{token, key, separated, any_tokens, some_tokens}
use Rattle.ab_language_laws.proofs.Openings.{Opening, opens_plain, opens_proof_row, opens_label, opens_nothing, opening}
use Rattle.ab_language_laws.proofs.Both.{expression_found, type_found}

-- One token

pub found_name : Total Name Anything
found_name = token ShowsName name_shown one_name name_example

found_declared : Total DeclaredName Anything
found_declared = token ShowsDeclared declared_shown one_declared declared_example

found_depth : Total (One ShowsDepth) Anything
found_depth = token ShowsDepth depth_shown one_depth depth_example

found_limit : Total (One ShowsLimit) Anything
found_limit = token ShowsLimit limit_shown one_limit limit_example

found_text : Total (One ShowsText) Anything
found_text = token ShowsText text_shown one_text text_example

pub found_word : (w : List ℕ) → Total (Word w) Anything
found_word w = token (StandsAnywhere (word w)) (word_shown w) (one_placed (word w)) (placed_example (word w))

-- what ends itself, in front of what may follow
pub itself : {A : Type 0} (G : List Spot → A → Type 0) (F : List Token → Type 0) → Total G Anything → Total G F
itself G F g = fewer G Anything F (λ r f. tt) g

expression_before_stop : Total Expression BeforeStop
expression_before_stop = fewer Expression Followed BeforeStop followed_by_stop expression_found

pub type_before_stop : Total TypeExpression BeforeStop
type_before_stop = fewer TypeExpression Followed BeforeStop followed_by_stop type_found

name_before_stop : Total Name BeforeStop
name_before_stop = itself Name BeforeStop found_name

-- a name, and a key
pub name_then : (k : Token) → IsTold k → Total (Name ◂ Key k) Anything
name_then k told = two (name_and k) (key k told) found_name

-- Rows of tokens

names : Total (Many Name) BeforeStop
names ks = any_tokens ShowsName name_shown one_name name_example BeforeStop names_end ks

some_names : Total (OneOrMore Name) BeforeStop
some_names ks = some_tokens ShowsName name_shown one_name name_example BeforeStop names_end ks

some_numbers : Total Numbers BeforeStop
some_numbers ks = some_tokens ShowsNumber number_shown one_number number_example BeforeStop numbers_end ks

some_arguments : Total (OneOrMore (One ShowsArgument)) ArgumentsEnd
some_arguments ks = some_tokens ShowsArgument argument_shown one_argument argument_example ArgumentsEnd arguments_end ks

some_nominals : Total (OneOrMore (One ShowsNominal)) (Without ShowsNominal)
some_nominals ks = some_tokens ShowsNominal nominal_shown one_nominal nominal_example (Without ShowsNominal) (token_apart ShowsNominal) ks

-- Lists

pub declared_names : Total DeclaredNames (Except comma)
declared_names ks = separated comma DeclaredName Anything (Except comma) is_comma (λ r f e. f e) (λ r f. tt) found_declared ks

found_definiendum : Total Definiendum Followed
found_definiendum = two definiendum type_found (two (declared_and colon) (key colon is_colon) found_declared)

definienda : Total Definienda (Comes (other by_word))
definienda ks = separated comma Definiendum Followed (Comes (other by_word)) is_comma by_no_comma definiendum_ends found_definiendum ks

found_instance : Total InstanceForm Followed
found_instance = two instance_form expression_found (name_then (sign Equal) is_equal)

instance_list : Total InstanceList BeforeStop
instance_list ks = separated comma InstanceForm Followed BeforeStop is_comma stop_no_comma instance_ends found_instance ks

-- Parts behind a key

pub keyed : {A : Type 0} (k : Token) (told : IsTold k) (G : List Spot → A → Type 0) (F : List Token → Type 0) → Example G → Total G F → Total (Key k ▸ G) F
keyed k told G F x g = two (two_parts (λ u b. b) (λ b. b) (Key k) Anything G (Key k ▸ G) F (λ r f. tt) x (λ w d g. g) (λ w d g. (d, g, refl))) g (key k told)

-- a part that a key shows, or nothing
pub by_told : {A : Type 0} (G : List Spot → A → Type 0) (F : List Token → Type 0) (k : Token) → IsTold k → (ks : List Token) → (Comes k ks → Outcome G F ks) → (Except k ks → Outcome G F ks) → Outcome G F ks
by_told G F k told ks there absent = from_told (next_told k told ks)
  where
    from_told : (Comes k ks) ⊎ (Except k ks) → Outcome G F ks
    from_told (inl e) = there e
    from_told (inr n) = absent n

becomes_body : Total (Sign becomes ▸ Expression) ClauseEnds
becomes_body = keyed (other becomes) is_becomes Expression ClauseEnds expression_example (fewer Expression Followed ClauseEnds clause_end_follows expression_found)

clause_body : Total ClauseBody ClauseEnds
clause_body ks = by_told ClauseBody ClauseEnds (other becomes) is_becomes ks (λ e. onwards (choices.with_body ks e) (becomes_body ks)) (λ n. is_read None ks (choices.no_body ks n))

found_clause : Total ClauseForm ClauseEnds
found_clause = two clause_form clause_body expression_found

clauses : Total Clauses BeforeStop
clauses ks = separated (other semicolon) ClauseForm ClauseEnds BeforeStop is_semicolon stop_no_semicolon clause_ends found_clause ks

optional_clauses : Total (Optional [] Clauses) BeforeStop
optional_clauses ks = by_told (Optional [] Clauses) BeforeStop (other stop) is_stop ks (λ e. is_read [] ks (choices.no_clauses ks e)) (λ n. onwards (choices.with_clauses ks n) (clauses ks))

found_definition : Total Definition BeforeStop
found_definition = two definition optional_clauses (two definienda_by (key (other by_word) is_by) definienda)

some_arguments_example : Example (OneOrMore (One ShowsArgument))
some_arguments_example = let a = argument_example in record { spots = a.spots ++ []; value = a.value ∷ []; text = joined a.text no_more }

arguments : Total Arguments ArgumentsEnd
arguments = keyed (other to_word) is_to (OneOrMore (One ShowsArgument)) ArgumentsEnd some_arguments_example some_arguments

optional_arguments : Total (Optional [] Arguments) ArgumentsEnd
optional_arguments ks = by_told (Optional [] Arguments) ArgumentsEnd (other to_word) is_to ks (λ e. onwards (choices.with_arguments ks e) (arguments ks)) (λ n. is_read [] ks (choices.no_arguments ks n))

instances : Total Instances BeforeStop
instances = keyed (other with_word) is_with InstanceList BeforeStop instance_list_example instance_list

optional_instances : Total (Optional [] Instances) BeforeStop
optional_instances ks = by_told (Optional [] Instances) BeforeStop (other with_word) is_with ks (λ e. onwards (choices.with_instances ks e) (instances ks)) (λ n. is_read [] ks (choices.no_instances ks n))

keep_inside : Total (Word (codes "keep") ▸ Key right_paren) Anything
keep_inside = two keep (key right_paren is_right_paren) (found_word (codes "keep"))

keep_example : Example (Word (codes "keep") ▸ Key right_paren)
keep_example = let w = placed_example (word (codes "keep")) in record { spots = w.spots ++ lone right_paren ∷ []; value = tt; text = joined w.text the_key }

found_keep : Total (Key left_paren ▸ (Word (codes "keep") ▸ Key right_paren)) BeforeStop
found_keep = keyed left_paren is_left_paren (Word (codes "keep") ▸ Key right_paren) BeforeStop keep_example (itself (Word (codes "keep") ▸ Key right_paren) BeforeStop keep_inside)

optional_keep : Total (Optional false Keep) BeforeStop
optional_keep ks = by_told (Optional false Keep) BeforeStop left_paren is_left_paren ks (λ e. onwards (choices.with_keep ks e) (found_keep ks)) (λ n. is_read false ks (choices.no_keep ks n))

found_nominals : Total Nominals Anything
found_nominals = two nominals (key right_paren is_right_paren) (two opened_nominals some_nominals (key left_paren is_left_paren))

by_name : (ks : List Token) → ((x : List ℕ) × Showing ShowsName x ks) ⊎ Without ShowsName ks → Outcome OptionalName BeforeStop ks
by_name ks (inl (x, (k, e, s))) = onwards (choices.with_name ks k x e s) (name_before_stop ks)
by_name ks (inr n) = is_read None ks (choices.no_name ks n)

optional_name : Total OptionalName BeforeStop
optional_name ks = by_name ks (next_shown ShowsName name_shown ks)

optional_depth : Total (Optional 5 (One ShowsDepth)) BeforeStop
optional_depth ks = by_told (Optional 5 (One ShowsDepth)) BeforeStop (other stop) is_stop ks (λ e. is_read 5 ks (choices.no_depth ks e)) (λ n. onwards (choices.with_depth ks n) (itself (One ShowsDepth) BeforeStop found_depth ks))

-- a number behind a key, or nothing
number_behind : (d : ℕ) (Shows : Token → ℕ → Type 0) (k : Token) → IsTold k → Example (One Shows) → Total (One Shows) Anything → Total (Optional d (Key k ▸ One Shows)) (Except k)
number_behind d Shows k told x found ks = by_told (Optional d (Key k ▸ One Shows)) (Except k) k told ks
    (λ e. onwards (choices.with_keyed ks d k (One Shows) e) (keyed k told (One Shows) (Except k) x (itself (One Shows) (Except k) found) ks))
    (λ n. is_read d ks (choices.no_keyed ks d k (One Shows) n))

query_depth : Total OptionalDepth DepthEnds
query_depth = fewer OptionalDepth (Except (other on_word)) DepthEnds rows.depth_no_on (number_behind 5 ShowsDepth (other on_word) is_on depth_example found_depth)

query_limit : Total OptionalLimit BeforeStop
query_limit = fewer OptionalLimit (Except (other to_word)) BeforeStop rows.limit_no_to (number_behind 10 ShowsLimit (other to_word) is_to limit_example found_limit)

switch : Total Switch BeforeStop
switch ks = by_told Switch BeforeStop (other on_word) is_on ks
    (λ e. onwards (choices.switch_on ks e) (itself (Sign on_word) BeforeStop (key (other on_word) is_on) ks))
    (λ n. onwards (choices.switch_off ks n) (itself (Word (codes "off")) BeforeStop (found_word (codes "off")) ks))

split : Total (ProofRow proof.Split) BeforeStop
split ks = by_told (ProofRow proof.Split) BeforeStop (other star) is_star ks
    (λ e. onwards (choices.split_all ks e) (itself (Sign star) BeforeStop (key (other star) is_star) ks))
    (λ n. is_read tree.split ks (choices.split ks n))

-- The table

found_row : (h : Head) → Total (Row h) BeforeStop
found_row head.Kind ks = two rows.kind (itself (Sign type_word) BeforeStop (key (other type_word) is_type)) declared_names ks
found_row head.Typed ks = two rows.typed type_before_stop declared_names ks
found_row head.Define ks = onwards (choices.define ks) (found_definition ks)
found_row head.CoDefine ks = onwards (choices.codefine ks) (found_definition ks)
found_row head.Theorem ks = two rows.theorem expression_before_stop (name_then colon is_colon) ks
found_row head.Specification ks = onwards (choices.specification ks) (itself (One ShowsText) BeforeStop found_text ks)
found_row head.Query ks = two rows.query query_limit (two rows.query_depth query_depth expression_found) ks
found_row head.Show ks = onwards (choices.show ks) (name_before_stop ks)
found_row head.Quit ks = is_read tree.quit ks (choices.quit ks)
found_row head.Set ks = two rows.set switch (found_word (codes "subgoals")) ks
found_row head.Back ks = is_read tree.back ks (choices.back ks)
found_row head.Reset ks = is_read tree.reset ks (choices.reset ks)
found_row head.Undo ks = is_read tree.undo ks (choices.undo ks)
found_row head.Abort ks = is_read tree.abort ks (choices.abort ks)

name_with : Total (Name ◂ Sign with_word) Anything
name_with = name_then (other with_word) is_with

found_proof_row : (h : ProofHead) → Total (ProofRow h) BeforeStop
found_proof_row proof.Intros ks = onwards (choices.intros ks) (names ks)
found_proof_row proof.Induction ks = two rows.induction some_numbers (key (other on_word) is_on) ks
found_proof_row proof.Coinduction ks = is_read tree.coinduction ks (choices.coinduction ks)
found_proof_row proof.Case ks = two rows.case optional_keep found_name ks
found_proof_row proof.Apply ks = two rows.apply optional_instances (two applied optional_arguments found_name) ks
found_proof_row proof.Backchain ks = two rows.backchain optional_instances found_name ks
found_proof_row proof.Cut ks = two rows.cut name_before_stop name_with ks
found_proof_row proof.Inst ks = two rows.inst instance_list name_with ks
found_proof_row proof.Monotone ks = two rows.monotone expression_before_stop name_with ks
found_proof_row proof.Search ks = onwards (choices.search ks) (optional_depth ks)
found_proof_row proof.Skip ks = is_read tree.skip ks (choices.skip ks)
found_proof_row proof.Split ks = split ks
found_proof_row proof.Left ks = is_read tree.left ks (choices.left ks)
found_proof_row proof.Right ks = is_read tree.right ks (choices.right ks)
found_proof_row proof.Exists ks = onwards (choices.exists ks) (expression_before_stop ks)
found_proof_row proof.Witness ks = onwards (choices.witness ks) (expression_before_stop ks)
found_proof_row proof.Unfold ks = is_read tree.unfold_goal ks (choices.unfold_goal ks)
found_proof_row proof.Assert ks = onwards (choices.assert ks) (expression_before_stop ks)
found_proof_row proof.Clear ks = onwards (choices.clear ks) (some_names ks)
found_proof_row proof.Rename ks = two rows.rename name_before_stop (name_then (other to_word) is_to) ks
found_proof_row proof.Permute ks = two rows.permute optional_name found_nominals ks

-- Commands

may_be_labelled : (b : Bool) → IsTrue b ⊎ (IsTrue b → ⊥)
may_be_labelled true = inl refl
may_be_labelled false = inr (λ e. absurd (cc))

-- no proof command that takes a label begins with this token
unlabelled : (k : Token) (ks : List Token) → ((h : ProofHead) → OpensProof h k tt → IsTrue (takes_label h) → ⊥) → Outcome LabelledForm BeforeStop (k ∷ ks)
unlabelled k ks n = is_stopped (k ∷ ks) (no_labelled (k ∷ ks) (λ j h e o t. let same : j ≡ k = cc in n h (subst (λ (i : Token). OpensProof h i tt) same o) t))

labelled_at : (k : Token) (ks : List Token) → Opening k → Outcome LabelledForm BeforeStop (k ∷ ks)
labelled_at k ks (opens_proof_row h o) = by_label (may_be_labelled (takes_label h))
  where
    by_label : IsTrue (takes_label h) ⊎ (IsTrue (takes_label h) → ⊥) → Outcome LabelledForm BeforeStop (k ∷ ks)
    by_label (inl t) = onwards (labelled_row k ks h o t) (found_proof_row h ks)
    by_label (inr n) = unlabelled k ks (λ j q t. n (subst (λ (i : ProofHead). IsTrue (takes_label i)) (one_proof_head j h k q o) t))
labelled_at k ks (opens_plain h o) = unlabelled k ks (λ j q t. plain_no_proof h j k o q)
labelled_at k ks (opens_label x s) = unlabelled k ks (λ j q t. proof_no_label j k x s q)
labelled_at k ks (opens_nothing a b c) = unlabelled k ks (λ j q t. b j q)

labelled_form : Total LabelledForm BeforeStop
labelled_form [] = is_stopped [] (no_labelled [] (λ k h e o t. absurd (cc)))
labelled_form (k ∷ ks) = labelled_at k ks (opening k)

found_colon : Total (Key colon) Anything
found_colon = key colon is_colon

module _ (k : Token) (ks : List Token) where
  behind_label : (x : List ℕ) (s : ShowsLabel k x) → Outcome (Key colon) Anything ks → Outcome CommandForm BeforeStop (k ∷ ks)
  behind_label x s (is_read u ms r) = onwards (label_row k ks x s ms r) (labelled_form ms)
  behind_label x s (is_stopped ms r) = is_stopped ms (colon_refused k ks x s ungrammatical ms r)
  behind_label x s (is_deep ms r) = is_deep ms (colon_refused k ks x s too_nested ms r)

  command_at : Opening k → Outcome CommandForm BeforeStop (k ∷ ks)
  command_at (opens_plain h o) = onwards (plain_row k ks h o) (found_row h ks)
  command_at (opens_proof_row h o) = onwards (proof_row k ks h o) (found_proof_row h ks)
  command_at (opens_label x s) = behind_label x s (found_colon ks)
  command_at (opens_nothing a b c) = is_stopped (k ∷ ks) (no_command (k ∷ ks) (λ h. none_next (Opens h) k ks (λ u o. a h o)) (λ h. none_next (OpensProof h) k ks (λ u o. b h o)) (none_next ShowsLabel k ks c))

command_form : Total CommandForm BeforeStop
command_form [] = is_stopped [] (no_command [] (λ h. none_at_end (Opens h)) (λ h. none_at_end (OpensProof h)) (none_at_end ShowsLabel))
command_form (k ∷ ks) = command_at k ks (opening k)

command_found : Total CommandText Followed
command_found = two whole_command (itself (Sign stop) Followed (key (other stop) is_stop)) command_form

pub command_answer : (ts : List Token) → HasAnswer CommandText ts
command_answer = answer CommandText command_found

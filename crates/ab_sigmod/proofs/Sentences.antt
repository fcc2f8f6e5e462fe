-- The sentences of a file: where the first ends, what a reader of one says of it, and the title of a name.
use Rattle.std.proofs.Common.{◌≡◌, ◌≢◌, ◌<◌, ◌≤◌, ◌+◌, ◌-◌, ℕ, zero, suc, List, [], ◌∷◌, ◌++◌, Contains, take, drop, length, get_or, Some, length-drop, refl, ap, sym, ◌∙◌, subst, inl, inr, arith}
use Rattle.std.proofs.lemmas.List.{take-append-drop, drop_more}
use Rattle.ab_lex.specs.declared.token.Token.{Token as Lexed}
use Rattle.ab_lex.specs.declared.token.LexFault.{LexFault}
use Rattle.ab_lex.specs.Tokens.{FaultOf, place_of}
use Rattle.ab_grammar.specs.Token.{Token, other, stop}
use Rattle.ab_grammar.specs.Nesting.{blamed}
use Rattle.ab_grammar.specs.Language.{SyntaxAt, TooNestedAt}
use Rattle.ab_grammar.specs.CommandForms.{Form}
use Rattle.ab_grammar.specs.FileTokens.{sentence}
use Rattle.ab_syntax.specs.ab_expressions.specs.Tokens.{token_of, tokens_from}
use Rattle.ab_syntax.specs.Faults.{place_past}
use Rattle.ab_syntax.specs.ab_expressions.specs.declared.fault.ParseFault.{ParseFault}
use Rattle.ab_syntax.specs.ab_expressions.specs.declared.fault.ParseFault.TheVariants.{Syntax, TooNested, Memory}
use Rattle.ab_lex.specs.Tokens.{TokensOf}
use Rattle.ab_grammar.specs.declared.file.FileKind.{FileKind}
use Rattle.ab_grammar.specs.FileTrees.{Item}
use Rattle.ab_grammar.specs.FileTable.{TitleText, ItemText}
use Rattle.ab_grammar.specs.FileTokens.{item_tokens}
use Rattle.ab_grammar.specs.Language.{Accepted}
use Rattle.ab_syntax.specs.ab_expressions.specs.Tokens.{StandIn}
use Rattle.ab_syntax.proofs.Standings.{tokens_stand}
use Rattle.ab_sigmod.specs.FileNames.{File, slash, IsTitle}
use Rattle.ab_sigmod.specs.declared.file_text.TextStop.{TextStop}
use Rattle.ab_sigmod.specs.FileTexts.{TextFault, syntax, too_nested, wrong_title, Divided, IsRefused, for_its_form, for_its_depth, ItemRead, Titled, IsFaulty, no_tokens, no_title, other_title}
use Rattle.ab_sigmod.specs.Texts.{fault_of, stop_of, Unread}

take_whole : {X : Type 0} (xs : List X) → take (length xs) xs ≡ xs
take_whole [] = refl
take_whole {X} (x ∷ xs) = ap (λ (ys : List X). x ∷ ys) (take_whole xs)

-- a slice that goes to the end
pub to_end : {X : Type 0} (xs : List X) (n : ℕ) → take (length xs - n) (drop n xs) ≡ drop n xs
to_end xs n = ap (λ m. take m (drop n xs)) (sym (length-drop n xs)) ∙ take_whole (drop n xs)

pub divided : (bytes : List ℕ) (ts : List Lexed) (n : ℕ) → tokens_from bytes 0 (take n ts) ≡ sentence (tokens_from bytes 0 ts) → Divided bytes ts (take n ts) (drop n ts)
divided bytes ts n e = record { whole = sym (take-append-drop n ts); is_sentence = e }

-- what a reader of the sentence tells, where it is no text
pub refused : {A : Type 0} (G : Form A) (bytes : List ℕ) (ks : List Token) (us : List Lexed) (s : ParseFault)
    → ((p : ℕ) → s ≡ Syntax p → (i : ℕ) × SyntaxAt G ks i × (p ≡ place_past bytes 0 us i))
    → ((p : ℕ) → s ≡ TooNested p → (i : ℕ) × TooNestedAt G ks i × (p ≡ place_past bytes 0 us (blamed ks i)))
    → (e : TextFault) → fault_of (stop_of s) ≡ Some e → IsRefused bytes G ks us e
refused G bytes ks us (Syntax p) f g e h = let r = f p refl in let same : syntax p ≡ e = cc in subst (IsRefused bytes G ks us) (ap syntax (sym r.2) ∙ same) (for_its_form r.0 r.1)
refused G bytes ks us (TooNested p) f g e h = let r = g p refl in let same : too_nested p ≡ e = cc in subst (IsRefused bytes G ks us) (ap too_nested (sym r.2) ∙ same) (for_its_depth r.0 r.1)
refused G bytes ks us (Memory m) f g e h = absurd (cc)

no_sentence : (k : Token) (ks : List Token) → [] ≡ sentence (k ∷ ks) → ⊥
no_sentence (other stop) ks e = absurd (cc)
no_sentence k ks e = absurd (cc)

-- a sentence of some tokens has one at least
pub some_taken : (bytes : List ℕ) (ts : List Lexed) (n : ℕ) → ts ≢ [] → tokens_from bytes 0 (take n ts) ≡ sentence (tokens_from bytes 0 ts) → 0 < n
some_taken bytes [] n m e = absurd (m refl)
some_taken bytes (t ∷ ts) zero m e = absurd (no_sentence (token_of bytes 0 t) (tokens_from bytes 0 ts) e)
some_taken bytes (t ∷ ts) (suc n) m e = omega arith

module _ (bytes : List ℕ) (ts : List Lexed) (n : ℕ) (cut : tokens_from bytes 0 (take n ts) ≡ sentence (tokens_from bytes 0 ts)) where
  pub item_read : (k : FileKind) (i : Item) (vs : List Lexed) → drop n ts ≡ vs → Accepted (ItemText k) (item_tokens k (tokens_from bytes 0 (take n ts))) i → ItemRead bytes k ts i vs
  item_read k i vs e a = record { written = take n ts; divided = subst (λ (us : List Lexed). Divided bytes ts (take n ts) us) e (divided bytes ts n cut); is = a }

  pub no_item_read : (k : FileKind) → ts ≢ [] → (s : ParseFault)
      → ((p : ℕ) → s ≡ Syntax p → (i : ℕ) × SyntaxAt (ItemText k) (item_tokens k (tokens_from bytes 0 (take n ts))) i × (p ≡ place_past bytes 0 (take n ts) i))
      → ((p : ℕ) → s ≡ TooNested p → (i : ℕ) × TooNestedAt (ItemText k) (item_tokens k (tokens_from bytes 0 (take n ts))) i × (p ≡ place_past bytes 0 (take n ts) (blamed (item_tokens k (tokens_from bytes 0 (take n ts))) i)))
      → (e : TextFault) → fault_of (stop_of s) ≡ Some e → Unread bytes k ts e
  no_item_read k m s f g e h = record { some_left = m; written = take n ts; behind = drop n ts; divided = divided bytes ts n cut; refused = refused (ItemText k) bytes (item_tokens k (tokens_from bytes 0 (take n ts))) (take n ts) s f g e h }

  module _ (f : File) (all : TokensOf bytes ts) where
    pub no_title_read : (s : ParseFault)
        → ((p : ℕ) → s ≡ Syntax p → (i : ℕ) × SyntaxAt (TitleText f.kind) (tokens_from bytes 0 (take n ts)) i × (p ≡ place_past bytes 0 (take n ts) i))
        → ((p : ℕ) → s ≡ TooNested p → (i : ℕ) × TooNestedAt (TitleText f.kind) (tokens_from bytes 0 (take n ts)) i × (p ≡ place_past bytes 0 (take n ts) (blamed (tokens_from bytes 0 (take n ts)) i)))
        → (e : TextFault) → fault_of (stop_of s) ≡ Some e → IsFaulty bytes f [] e
    no_title_read s a b e h = no_title all (divided bytes ts n cut) (refused (TitleText f.kind) bytes (tokens_from bytes 0 (take n ts)) (take n ts) s a b e h)

    module _ (x : List ℕ) (a : Accepted (TitleText f.kind) (tokens_from bytes 0 (take n ts)) x) where
      pub other_title_read : (y : List ℕ) → IsTitle f.base y → x ≢ y → (e : TextFault) → Some wrong_title ≡ Some e → IsFaulty bytes f [] e
      other_title_read y t m e h = let same : wrong_title ≡ e = cc in subst (IsFaulty bytes f []) same (other_title all (divided bytes ts n cut) a t m)

      pub title_read : IsTitle f.base x → Titled bytes f (drop n ts)
      title_read t = record { tokens = ts; all = all; written = take n ts; divided = divided bytes ts n cut; title = x; is = a; right = t }

pub no_tokens_read : (bytes : List ℕ) (f : File) (s : TextStop) → ((e : TextFault) → fault_of s ≡ Some e → (x : LexFault) × FaultOf bytes x × (e ≡ syntax (place_of x))) → (e : TextFault) → fault_of s ≡ Some e → IsFaulty bytes f [] e
no_tokens_read bytes f s g e h = let r = g e h in subst (IsFaulty bytes f []) (sym r.2) (no_tokens r.1)

-- tokens of bytes stand in these, wherever these lie
pub stand : (bytes held : List ℕ) (ts : List Lexed) → held ≡ bytes → TokensOf bytes ts → StandIn held 0 ts
stand bytes held ts e all = subst (λ (bs : List ℕ). StandIn bs 0 ts) (sym e) (tokens_stand bytes all [] refl refl)

-- what stands behind the last slash
module _ (base : List ℕ) (start : ℕ) (none : ¬ Contains (drop start base) slash) where
  pub behind_slash : (d : ℕ) → 0 < start → start ≤ length base → get_or base (start - 1) d ≡ slash → IsTitle base (drop start base)
  behind_slash d some h e =
      let on : start - 1 + 1 ≡ start = omega arith in
      let next : drop (start - 1) base ≡ slash ∷ drop start base = drop_more base (start - 1) d (omega arith) ∙ ap (λ (b : ℕ). b ∷ drop (start - 1 + 1) base) e ∙ ap (λ (n : ℕ). slash ∷ drop n base) on in
      (none, inr (take (start - 1) base, sym (take-append-drop (start - 1) base) ∙ ap (λ (s : List ℕ). take (start - 1) base ++ s) next))

  pub whole_name : start ≡ 0 → IsTitle base (drop start base)
  whole_name e = (none, inl (ap (λ (n : ℕ). drop n base) (sym e)))

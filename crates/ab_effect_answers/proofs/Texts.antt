-- The text of a specification file says items, or it is faulty behind some.
use Rattle.std.proofs.Common.{◌≡◌, ◌≢◌, ◌⊎◌, inl, inr, ℕ, zero, suc, ◌+◌, ◌<◌, ◌≤◌, List, [], ◌∷◌, ◌++◌, take, drop, length, Contains, refl, sym, ap, subst, arith, length-drop}
use Rattle.ab_lex.specs.declared.token.Token.{Token as Lexed}
use Rattle.ab_lex.specs.Tokens.{TokensOf, place_of}
use Rattle.ab_lex.proofs.Readable.{reading_there}
use Rattle.ab_grammar.specs.Token.{Token, other, stop}
use Rattle.ab_grammar.specs.FileTrees.{Item}
use Rattle.ab_grammar.specs.FileTable.{TitleText, ItemText}
use Rattle.ab_grammar.specs.FileTokens.{item_tokens, sentence}
use Rattle.ab_syntax.specs.ab_expressions.specs.Tokens.{token_of, tokens_from}
use Rattle.ab_sigmod.specs.FileNames.{File, slash, IsTitle}
use Rattle.ab_sigmod.specs.FileTexts.{TextFault, syntax, too_nested, wrong_title, for_its_form, for_its_depth, ItemsRead, none_yet, one_more, Titled, Begins, Says, IsFaulty, no_tokens, no_title, other_title, no_item}
use Rattle.ab_sigmod.proofs.Sentences.{divided, some_taken}
use Rattle.ab_language_laws.specs.TextAnswers.{HasAnswer}
use Rattle.ab_language_laws.proofs.Files.{title_answer, item_answer}
use Rattle.ab_existence.specs.Certainty.{IsCertain}
use Rattle.ab_existence.proofs.Certain.{sure, and_so, and_also, there_or_not}

-- what stands behind the last slash, or the whole
title_there : (base : List ℕ) → IsCertain ((title : List ℕ) × IsTitle base title)
title_there [] = sure ([], ((λ c. absurd (omega (arith, c.1))), inl refl))
title_there (b ∷ bs) =
    and_so (title_there bs)
    (λ t. and_also (there_or_not (Contains (b ∷ bs) slash)) (λ some. elim some [ inr none ↦ (b ∷ bs, (none, inl refl)) | inl c ↦ past b bs t.0 t.1 c ]))
  where
    past : (b : ℕ) (bs title : List ℕ) → IsTitle bs title → Contains (b ∷ bs) slash → (x : List ℕ) × IsTitle (b ∷ bs) x
    past b bs title (none, inr (folder, e)) c = (title, (none, inr (b ∷ folder, ap (λ (s : List ℕ). b ∷ s) e)))
    past b bs title (none, inl e) (zero, l, is) = (bs, ((λ h. none (subst (λ (s : List ℕ). Contains s slash) e h)), inr ([], ap (λ (c : ℕ). c ∷ bs) is)))
    past b bs title (none, inl e) (suc k, l, is) = absurd (none (subst (λ (s : List ℕ). Contains s slash) e (k, omega (arith, l), is)))

-- where the first sentence of some tokens ends
one_longer : (bytes : List ℕ) (ts : List Lexed) (n : ℕ) → tokens_from bytes 0 (take n ts) ≡ sentence (tokens_from bytes 0 ts) → (k : Token) → (m : ℕ) × (k ∷ tokens_from bytes 0 (take m ts) ≡ sentence (k ∷ tokens_from bytes 0 ts))
one_longer bytes ts n e (other stop) = (0, refl)
one_longer bytes ts n e k = (n, ap (λ (ks : List Token). k ∷ ks) e)

sentence_ends : (bytes : List ℕ) (ts : List Lexed) → (n : ℕ) × (tokens_from bytes 0 (take n ts) ≡ sentence (tokens_from bytes 0 ts))
sentence_ends bytes [] = (0, refl)
sentence_ends bytes (t ∷ ts) =
    let rest = sentence_ends bytes ts in
    let more = one_longer bytes ts rest.0 rest.1 (token_of bytes 0 t) in
    (suc more.0, more.1)

module _ (bytes : List ℕ) (f : File) where
  -- these items, or a fault behind some
  abbrev pub SaysOrFails : Type 0
  SaysOrFails = ((is : List Item) × Says bytes f is) ⊎ ((is : List Item) × (t : TextFault) × IsFaulty bytes f is t)

  shorter : (n : ℕ) (ts : List Lexed) (m : ℕ) → length ts ≤ suc m → 0 < n → length (drop n ts) ≤ m
  shorter n ts m l some = omega (arith, l, some, length-drop n ts)

  module _ {first : List Lexed} (titled : Titled bytes f first) where
    module _ (is : List Item) (ts : List Lexed) (some_left : ts ≢ []) (read : ItemsRead bytes f.kind first is ts) (n : ℕ) (cut : tokens_from bytes 0 (take n ts) ≡ sentence (tokens_from bytes 0 ts)) where
      begun : Begins bytes f is ts
      begun = record { first = first; titled = titled; items = read }

      by_item : HasAnswer (ItemText f.kind) (item_tokens f.kind (tokens_from bytes 0 (take n ts))) → ((i : Item) → ItemsRead bytes f.kind first (is ++ i ∷ []) (drop n ts) → SaysOrFails) → SaysOrFails
      by_item (HasAnswer.accepted {a = i} a) on = on i (one_more read (record { written = take n ts; divided = divided bytes ts n cut; is = a }))
      by_item (HasAnswer.refused {i = i} a) on = inr (is, _, no_item begun some_left (divided bytes ts n cut) (for_its_form i a))
      by_item (HasAnswer.too_nested {i = i} a) on = inr (is, _, no_item begun some_left (divided bytes ts n cut) (for_its_depth i a))

    one_left : (t : Lexed) (ts : List Lexed) → t ∷ ts ≢ []
    one_left t ts e = absurd (cc)

    items_from : (m : ℕ) (is : List Item) (ts : List Lexed) → length ts ≤ m → ItemsRead bytes f.kind first is ts → SaysOrFails
    items_from m is [] l read = inl (is, record { first = first; titled = titled; items = read })
    items_from zero is (t ∷ ts) l read = absurd (omega (arith, l))
    items_from (suc m) is (t ∷ ts) l read =
        let cut = sentence_ends bytes (t ∷ ts) in
        by_item is (t ∷ ts) (one_left t ts) read cut.0 cut.1 (item_answer f.kind (item_tokens f.kind (tokens_from bytes 0 (take cut.0 (t ∷ ts)))))
        (λ i more. items_from m (is ++ i ∷ []) (drop cut.0 (t ∷ ts)) (shorter cut.0 (t ∷ ts) m l (some_taken bytes (t ∷ ts) cut.0 (one_left t ts) cut.1)) more)

  by_title : (ts : List Lexed) → TokensOf bytes ts → IsCertain SaysOrFails
  by_title ts all = by_answer (title_answer f.kind (tokens_from bytes 0 (take cut.0 ts)))
    where
      cut : (n : ℕ) × (tokens_from bytes 0 (take n ts) ≡ sentence (tokens_from bytes 0 ts))
      cut = sentence_ends bytes ts

      by_answer : HasAnswer (TitleText f.kind) (tokens_from bytes 0 (take cut.0 ts)) → IsCertain SaysOrFails
      by_answer (HasAnswer.accepted {a = x} a) =
          and_so (title_there f.base)
          (λ y. and_also (there_or_not (x ≡ y.0))
          (λ same. elim same [
            | inl e ↦ (let t : IsTitle f.base x = subst (IsTitle f.base) (sym e) y.1 in
                items_from {first = drop cut.0 ts} (record { tokens = ts; all = all; written = take cut.0 ts; divided = divided bytes ts cut.0 cut.1; title = x; is = a; right = t })
                (length (drop cut.0 ts)) [] (drop cut.0 ts) (omega arith) none_yet)
            | inr n ↦ inr ([], wrong_title, other_title all (divided bytes ts cut.0 cut.1) a y.1 n)
          ]))
      by_answer (HasAnswer.refused {i = i} a) = sure (inr ([], _, no_title all (divided bytes ts cut.0 cut.1) (for_its_form i a)))
      by_answer (HasAnswer.too_nested {i = i} a) = sure (inr ([], _, no_title all (divided bytes ts cut.0 cut.1) (for_its_depth i a)))

  pub text_answered : IsCertain SaysOrFails
  text_answered = elim (reading_there bytes) [ inl ts ↦ by_title ts.0 ts.1 | inr fault ↦ sure (inr ([], syntax (place_of fault.0), no_tokens fault.1)) ]

-- Tools of the reader's private functions: the grammar of certificates, part by part. A part begins by a piece, which says what
-- parts follow.
use Rattle.std.specs.Prelude.{◌≡◌, ◌<◌, ◌≤◌, ◌-◌, ◌+◌, bytes_eq, ◌⊎◌, ◌^◌, take, drop, ℕ, zero, suc, Bool, true, false, if◌then◌else◌, List, [], ◌∷◌, ◌++◌, length, map, codes, decimal, Option, Some}
use Rattle.std.specs.List.{flat_map}
use Rattle.ab_cert.specs.declared.part.Part.{Part}
use Rattle.ab_cert.specs.Plain.{Ty, Head, Sign, Term, Replace, Step, Variable, Clause, Item}
use Rattle.ab_cert.specs.Tables.{Form, a_name, a_label, a_flag, a_place, a_term, some_numbers, some_labels, some_replaces, steps, Kind, nothing, a_type, a_level, signs, value_at, IsName, IsLong, IsSmall, IsCount, Each, IsList, IsTy, IsSign, IsHead, IsTerm, IsLabel, IsReplace, IsStep, IsVariable, IsClause, IsItem}
use Rattle.ab_cert.specs.Pieces.{Pieces, type_pieces, detail_pieces, head_pieces, term_pieces, label_piece, flag_piece, replace_pieces, list_pieces, step_pieces, variable_pieces, clause_pieces, block_piece, item_lines, first_line}
use Rattle.ab_cert.specs.Texts.{space, line_feed, line_text}
use Rattle.ab_cert.specs.Reading.{text_with_end}

-- HOW A PART BEGINS, and what follows: by a word of a table; by a name; by a byte, or a name that nothing follows; by a number below a limit
pub data Lead : Type 0 where
  words : List (List ℕ × List Part) → Lead
  names : List Part → Lead
  mark_or_name : ℕ → List Part → Lead
  numbers : ℕ → (ℕ → List Part) → Lead

-- so many of them
abbrev pub copies : ℕ → Part → List Part
copies zero s = []
copies (suc n) s = s ∷ copies n s

abbrev pub part_of : Form → Part
part_of a_name = Part.Name
part_of a_label = Part.Label
part_of a_flag = Part.Flag
part_of a_place = Part.Place
part_of a_term = Part.Term
part_of some_numbers = Part.Numbers
part_of some_labels = Part.Labels
part_of some_replaces = Part.Replaces

-- the table of steps from a number on
abbrev pub step_rows : ℕ → List (List Form) → List (List ℕ × List Part)
step_rows n [] = []
step_rows n (forms ∷ more) = (decimal n, map part_of forms) ∷ step_rows (suc n) more

abbrev pub detail_parts : Kind → List Part
detail_parts nothing = []
detail_parts a_type = Part.Type ∷ []
detail_parts a_level = Part.Long ∷ []

abbrev pub sign_rows : List (List ℕ × Kind) → List (List ℕ × List Part)
sign_rows [] = []
sign_rows (row ∷ rows) = (row.0, detail_parts row.1) ∷ sign_rows rows

abbrev pub head_rows : List (List ℕ × List Part)
head_rows =
    (codes "c", Part.Name ∷ []) ∷ (codes "l", Part.Sign ∷ []) ∷ (codes "n", Part.Long ∷ (Part.Type ∷ []))
    ∷ (codes "v", Part.Name ∷ []) ∷ (codes "i", Part.Place ∷ []) ∷ []

abbrev pub term_rows : List (List ℕ × List Part)
term_rows = (codes "\\", Part.Type ∷ (Part.Name ∷ (Part.Term ∷ []))) ∷ (codes "@", Part.Head ∷ (Part.Args ∷ [])) ∷ []

abbrev pub flag_rows : List (List ℕ × List Part)
flag_rows = (codes "0", []) ∷ (codes "1", []) ∷ []

abbrev pub letter_rows : List (List ℕ × List Part)
letter_rows = (codes "i", []) ∷ (codes "c", []) ∷ []

abbrev pub clause_parts : List Part
clause_parts = Part.Variables ∷ (Part.Term ∷ (Part.Term ∷ []))

abbrev pub clause_rows : List (List ℕ × List Part)
clause_rows = (codes "D", clause_parts) ∷ []

abbrev pub item_rows : List (List ℕ × List Part)
item_rows =
    (codes "K", Part.Name ∷ (Part.Items ∷ [])) ∷ (codes "C", Part.Name ∷ (Part.Type ∷ (Part.Items ∷ [])))
    ∷ (codes "B", Part.Letter ∷ (Part.Names ∷ (Part.Clauses ∷ [])))
    ∷ (codes "S", Part.Variables ∷ (Part.Term ∷ (Part.Term ∷ (Part.Items ∷ []))))
    ∷ (codes "T", Part.Name ∷ (Part.Proof ∷ [])) ∷ (codes "end", []) ∷ []

abbrev pub whole_rows : List (List ℕ × List Part)
whole_rows = (codes "abella-cert", Part.Version ∷ []) ∷ []

abbrev pub version_rows : List (List ℕ × List Part)
version_rows = (codes "1", Part.Items ∷ []) ∷ []

-- as many of a part as the number says
abbrev pub count_lead : Part → Lead
count_lead s = numbers (2 ^ 64) (λ n. copies n s)

abbrev pub lead_of : Part → Lead
lead_of Part.Whole = words whole_rows
lead_of Part.Version = words version_rows
lead_of Part.Items = words item_rows
lead_of Part.Clauses = numbers (2 ^ 64) (λ n. copies n Part.Clause ++ Part.Items ∷ [])
lead_of Part.Proof = numbers (2 ^ 64) (λ n. Part.Term ∷ (copies n Part.Step ++ Part.Items ∷ []))
lead_of Part.Step = words (step_rows 1 steps)
lead_of Part.Clause = words clause_rows
lead_of Part.Name = names []
lead_of Part.Label = mark_or_name 45 []
lead_of Part.Flag = words flag_rows
lead_of Part.Letter = words letter_rows
lead_of Part.Place = numbers (2 ^ 64) (λ n. [])
lead_of Part.Long = numbers (10 ^ 30) (λ n. [])
lead_of Part.Small = numbers (2 ^ 32) (λ n. [])
lead_of Part.Type = mark_or_name 62 (Part.Type ∷ (Part.Type ∷ []))
lead_of Part.Term = words term_rows
lead_of Part.Head = words head_rows
lead_of Part.Sign = words (sign_rows signs)
lead_of Part.Variable = names (Part.Type ∷ [])
lead_of Part.Replace = numbers (10 ^ 30) (λ n. Part.Type ∷ (Part.Term ∷ []))
lead_of Part.Args = count_lead Part.Term
lead_of Part.Names = count_lead Part.Name
lead_of Part.Labels = count_lead Part.Label
lead_of Part.Numbers = count_lead Part.Small
lead_of Part.Variables = count_lead Part.Variable
lead_of Part.Replaces = count_lead Part.Replace

-- the piece begins a part of this kind, and these parts follow
abbrev pub IsLead : Lead → List ℕ → List Part → Type 0
IsLead (words rows) p kids = value_at rows p ≡ Some kids
IsLead (names after) p kids = IsName p × (kids ≡ after)
IsLead (mark_or_name b mark) p kids = ((p ≡ b ∷ []) × (kids ≡ mark)) ⊎ (IsName p × (kids ≡ []))
IsLead (numbers limit after) p kids = (n : ℕ) × ((n < limit) × ((p ≡ decimal n) × (kids ≡ after n)))

-- the part begins a line
abbrev pub starts_line : Part → Bool
starts_line Part.Items = true
starts_line Part.Step = true
starts_line Part.Clause = true
starts_line s = false

-- the byte in front of what is still to be read
abbrev pub end_of : List Part → ℕ
end_of [] = line_feed
end_of (s ∷ pending) = if starts_line s then line_feed else space

-- WHAT IS READ OF A PART
abbrev pub Val : Part → Type 0
Val Part.Whole = List Item
Val Part.Version = List Item
Val Part.Items = List Item
Val Part.Clauses = List Clause × List Item
Val Part.Proof = Term × (List Step × List Item)
Val Part.Step = Step
Val Part.Clause = Clause
Val Part.Name = List ℕ
Val Part.Label = Option (List ℕ)
Val Part.Flag = Bool
Val Part.Letter = Bool
Val Part.Place = ℕ
Val Part.Long = ℕ
Val Part.Small = ℕ
Val Part.Type = Ty
Val Part.Term = Term
Val Part.Head = Head
Val Part.Sign = Sign
Val Part.Variable = Variable
Val Part.Replace = Replace
Val Part.Args = List Term
Val Part.Names = List (List ℕ)
Val Part.Labels = List (Option (List ℕ))
Val Part.Numbers = List ℕ
Val Part.Variables = List Variable
Val Part.Replaces = List Replace

-- it may be written
abbrev pub IsVal : (s : Part) → Val s → Type 0
IsVal Part.Whole x = Each IsItem x
IsVal Part.Version x = Each IsItem x
IsVal Part.Items x = Each IsItem x
IsVal Part.Clauses x = IsList IsClause x.0 × Each IsItem x.1
IsVal Part.Proof x = IsTerm x.0 × (IsList IsStep x.1.0 × Each IsItem x.1.1)
IsVal Part.Step x = IsStep x
IsVal Part.Clause x = IsClause x
IsVal Part.Name x = IsName x
IsVal Part.Label x = IsLabel x
IsVal Part.Flag x = Unit {0}
IsVal Part.Letter x = Unit {0}
IsVal Part.Place x = IsCount x
IsVal Part.Long x = IsLong x
IsVal Part.Small x = IsSmall x
IsVal Part.Type x = IsTy x
IsVal Part.Term x = IsTerm x
IsVal Part.Head x = IsHead x
IsVal Part.Sign x = IsSign x
IsVal Part.Variable x = IsVariable x
IsVal Part.Replace x = IsReplace x
IsVal Part.Args x = IsList IsTerm x
IsVal Part.Names x = IsList IsName x
IsVal Part.Labels x = IsList IsLabel x
IsVal Part.Numbers x = IsList IsSmall x
IsVal Part.Variables x = IsList IsVariable x
IsVal Part.Replaces x = IsList IsReplace x

-- the pieces of a part inside a line
abbrev pub pieces_of : (s : Part) → Val s → Pieces
pieces_of Part.Whole x = []
pieces_of Part.Version x = []
pieces_of Part.Items x = []
pieces_of Part.Clauses x = []
pieces_of Part.Proof x = []
pieces_of Part.Step x = step_pieces x
pieces_of Part.Clause x = codes "D" ∷ clause_pieces x
pieces_of Part.Name x = x ∷ []
pieces_of Part.Label x = label_piece x ∷ []
pieces_of Part.Flag x = flag_piece x ∷ []
pieces_of Part.Letter x = block_piece x ∷ []
pieces_of Part.Place x = decimal x ∷ []
pieces_of Part.Long x = decimal x ∷ []
pieces_of Part.Small x = decimal x ∷ []
pieces_of Part.Type x = type_pieces x
pieces_of Part.Term x = term_pieces x
pieces_of Part.Head x = head_pieces x
pieces_of Part.Sign x = x.word ∷ detail_pieces x.detail
pieces_of Part.Variable x = variable_pieces x
pieces_of Part.Replace x = replace_pieces x
pieces_of Part.Args x = list_pieces term_pieces x
pieces_of Part.Names x = list_pieces (λ n. n ∷ []) x
pieces_of Part.Labels x = list_pieces (λ l. label_piece l ∷ []) x
pieces_of Part.Numbers x = list_pieces (λ n. decimal n ∷ []) x
pieces_of Part.Variables x = list_pieces variable_pieces x
pieces_of Part.Replaces x = list_pieces replace_pieces x

-- the items, and the last line with the byte behind it
abbrev pub items_text : ℕ → List Item → List ℕ
items_text end items = flat_map line_text (flat_map item_lines items) ++ text_with_end end (codes "end" ∷ [])

-- THE TEXT OF A PART, with the byte behind it
abbrev pub part_text : (s : Part) → ℕ → Val s → List ℕ
part_text Part.Whole end x = line_text first_line ++ items_text end x
part_text Part.Version end x = line_text (codes "1" ∷ []) ++ items_text end x
part_text Part.Items end x = items_text end x
part_text Part.Clauses end x = line_text (decimal (length x.0) ∷ []) ++ (flat_map line_text (map (λ c. codes "D" ∷ clause_pieces c) x.0) ++ items_text end x.1)
part_text Part.Proof end x = line_text (decimal (length x.1.0) ∷ term_pieces x.0) ++ (flat_map line_text (map step_pieces x.1.0) ++ items_text end x.1.1)
part_text s end x = text_with_end end (pieces_of s x)

-- a thing that meets P, spelled by the text, and then a text of M
pub record Word {A : Type 0} (P : A → Type 0) (text : A → List ℕ) (M : List ℕ → Type 0) (w : List ℕ) : Type 0 where
  pub value : A
  pub meets : P value
  pub rest : List ℕ
  pub more : M rest
  pub spelled : w ≡ text value ++ rest

-- THE TEXTS OF WHAT IS STILL TO BE READ
abbrev pub Words : List Part → List ℕ → Type 0
Words [] w = w ≡ []
Words (s ∷ pending) w = Word (IsVal s) (part_text s (end_of pending)) (Words pending) w

-- READING THE FIRST PIECE OF A PART

-- no piece goes on from this one by the next byte
abbrev pub IsBlockedBy : Lead → List ℕ → List ℕ → Type 0
IsBlockedBy lead p [] = Unit {0}
IsBlockedBy lead p (b ∷ back) = (more : List ℕ) (kids : List Part) → IsLead lead (p ++ b ∷ more) kids → ⊥

abbrev pub span : List ℕ → ℕ → ℕ → List ℕ
span bytes start to = take (to - start) (drop start bytes)

-- the bytes from one place to another are the front of a piece that begins so, and the next byte is none of it; where they are a
-- whole piece, these parts follow
pub record IsScan (lead : Lead) (bytes : List ℕ) (start to : ℕ) (kids : Option (List Part)) : Type 0 where
  pub onward : start ≤ to
  pub within : to ≤ length bytes
  pub rest : List ℕ
  pub after : List Part
  pub front : IsLead lead (span bytes start to ++ rest) after
  pub whole : (ks : List Part) → IsLead lead (span bytes start to) ks → kids ≡ Some ks
  pub known : (ks : List Part) → kids ≡ Some ks → IsLead lead (span bytes start to) ks
  pub blocked : IsBlockedBy lead (span bytes start to) (drop to bytes)

-- THE FRONTS OF WORDS

-- some word of the table begins so
abbrev pub is_front : {A : Type 0} → List (List ℕ × A) → List ℕ → Bool
is_front [] p = false
is_front (r ∷ rs) p = if bytes_eq p (take (length p) r.0) then true else is_front rs p

-- the bytes from one place to another begin a word of the table, and with the next byte none
pub record IsFarthest {A : Type 0} (rows : List (List ℕ × A)) (bytes : List ℕ) (start to : ℕ) : Type 0 where
  pub onward : start ≤ to
  pub within : to ≤ length bytes
  pub came : is_front rows (span bytes start to) ≡ true
  pub far : to < length bytes → is_front rows (span bytes start (to + 1)) ≡ false

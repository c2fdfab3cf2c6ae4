-- The definitions of documents, which are sections of texts under names.
use Rattle.std.specs.Prelude.{ℕ, ◌≡◌, ◌<◌, Some, List, [], Option, String, All, fold, length, option_and_then, option_map, string_bytes, unwrap_or}
use Rattle.std.specs.{Cmp.{IsEquivalence, on_equiv}, Cmp.Lexicographic.nat_list_eq_equiv, Option.option_map_or}
use Rattle.std.specs.{Str.{str_eq_ignore_ascii_case, str_to_ascii_lowercase}, declared.alloc.Global.Global}
use Rattle.vecmap.specs.{Contents.{Contents, HasRoom}, Pairs.{HasDistinctKeys, lookup, map_values, put, puts}}

-- The `==` of names is an equivalence.
pub ignoring_case_equiv : IsEquivalence str_eq_ignore_ascii_case
ignoring_case_equiv = on_equiv str_to_ascii_lowercase nat_list_eq_equiv

-- A section: its names with their texts, in their order.
abbrev pub Section : Type 0
Section = List (List ℕ × String Global)

-- Example: `[(Font, [(Size, 12)])]`.
-- A document, as a contract sees it: each section under its name, in their order.
abbrev pub Sections : Type 0
Sections = List (List ℕ × Section)

-- A section, as its map holds it.
abbrev pub Stored : Type 0
Stored = Contents (List ℕ) (String Global)

-- The sections of a map of maps, without the capacities of their maps.
abbrev pub sections_of : List (List ℕ × Stored) → Sections
sections_of l = map_values (λ m. m.entries) l

-- The text under a section and a name, if there is one.
abbrev pub text_of : Sections → List ℕ → List ℕ → Option (List ℕ)
text_of d section name = option_and_then (λ texts. option_map string_bytes (lookup str_eq_ignore_ascii_case texts name)) (lookup str_eq_ignore_ascii_case d section)

-- Example: of `font` in `[(Font, [(Size, 12)])]`: `[(Size, 12)]`.
-- The texts of a section, or none if it does not exist.
abbrev pub section_of : Sections → List ℕ → Section
section_of d section = unwrap_or (lookup str_eq_ignore_ascii_case d section) []

-- Example: `[(Font, [(Size, 12)])]` and `[(font, [(SIZE, 12)])]`.
-- Two documents have the same texts under the same names. Order makes no difference.
abbrev pub AreSame : Sections → Sections → Type 0
AreSame d e = (section name : List ℕ) → text_of d section name ≡ text_of e section name

-- The names of the section are distinct, and there is at least one.
pub record IsSection (texts : Section) : Type 0 where
  pub distinct : HasDistinctKeys str_eq_ignore_ascii_case texts
  pub not_empty : 0 < length texts

-- Example: false of `[(Font, [])]`.
-- The names of the sections are distinct; no section is empty, and the names in each are distinct.
pub record IsDocument (d : Sections) : Type 0 where
  pub distinct : HasDistinctKeys str_eq_ignore_ascii_case d
  pub sections : All (λ p. IsSection p.1) d

-- Example: `Page`, `Width`, `5` into `[]`: `[(Page, [(Width, 5)])]`.
-- The document `d` with a text stored in its section, or in a new last section.
abbrev pub with_text : Sections → List ℕ → List ℕ → String Global → Sections
with_text d section name text = put str_eq_ignore_ascii_case d section (put str_eq_ignore_ascii_case (section_of d section) name text)

-- A new section is appended.
-- Example: `[(font, [(SIZE, 9)])]` into `[(Font, [(Size, 12)])]`: `[(Font, [(Size, 9)])]`.
-- The document `d` with the texts of a section inserted into the existing section of its name.
abbrev pub with_section : Sections → List ℕ → Section → Sections
with_section d section texts = put str_eq_ignore_ascii_case d section (option_map_or (λ old. puts str_eq_ignore_ascii_case old texts) (lookup str_eq_ignore_ascii_case d section) texts)

-- The document `d` with each section of `e` inserted, in order.
abbrev pub merge_of : Sections → Sections → Sections
merge_of d e = fold (λ done p. with_section done p.0 p.1) d e

-- Example: any absent section has it.
-- If the section exists, it has spare capacity for `n` more texts.
abbrev pub HasRoomAt : List (List ℕ × Stored) → List ℕ → ℕ → Type 0
HasRoomAt l section n = (m : Stored) → lookup str_eq_ignore_ascii_case l section ≡ Some m → HasRoom m n

-- The section with the name of `p` has spare capacity for as many texts as `p` has, if it exists.
abbrev pub IsRoomFor : List (List ℕ × Stored) → List ℕ × Stored → Type 0
IsRoomFor l p = HasRoomAt l p.0 (length p.1.entries)

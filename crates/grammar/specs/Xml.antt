-- Productions of XML 1.0 (Fifth Edition), by their numbers: tags, comments, processing instructions and CDATA sections. Assumes nothing.
use Rattle.std.specs.Prelude.{ℕ, Bool, not, ◌&&◌, ◌||◌, List, [], ◌∷◌, codes, ◌==◌}
use Rattle.std.specs.Int.{is_in_range}
use Rattle.grammar.specs.Lang.{Lang, Word, One, ◌⨾◌, ◌∣◌, Opt, Star, Plus, ◌less◌}

-- [2] Char ::= #x9 | #xA | #xD | [#x20-#xD7FF] | [#xE000-#xFFFD] | [#x10000-#x10FFFF]
abbrev pub char : ℕ → Bool
char c = c == 0x9 || c == 0xA || c == 0xD || is_in_range 0x20 0xD7FF c || is_in_range 0xE000 0xFFFD c || is_in_range 0x10000 0x10FFFF c

-- [3] S ::= (#x20 | #x9 | #xD | #xA)+
abbrev pub space : ℕ → Bool
space c = c == 0x20 || c == 0x9 || c == 0xD || c == 0xA

abbrev pub S : Lang
S = Plus (One space)

-- [4] NameStartChar
abbrev pub name_start : ℕ → Bool
name_start c =
    (c == 0x3A) || is_in_range 0x41 0x5A c || c == 0x5F || is_in_range 0x61 0x7A c || is_in_range 0xC0 0xD6 c || is_in_range 0xD8 0xF6 c
    || is_in_range 0xF8 0x2FF c || is_in_range 0x370 0x37D c || is_in_range 0x37F 0x1FFF c || is_in_range 0x200C 0x200D c || is_in_range 0x2070 0x218F c
    || is_in_range 0x2C00 0x2FEF c || is_in_range 0x3001 0xD7FF c || is_in_range 0xF900 0xFDCF c || is_in_range 0xFDF0 0xFFFD c || is_in_range 0x10000 0xEFFFF c

-- [4a] NameChar
abbrev pub name_char : ℕ → Bool
name_char c = name_start c || c == 0x2D || c == 0x2E || is_in_range 0x30 0x39 c || c == 0xB7 || is_in_range 0x300 0x36F c || is_in_range 0x203F 0x2040 c

-- [5] Name ::= NameStartChar (NameChar)*
abbrev pub Name : Lang
Name = One name_start ⨾ Star (One name_char)

-- [66] CharRef ::= '&#' [0-9]+ ';' | '&#x' [0-9a-fA-F]+ ';'
abbrev pub digit : ℕ → Bool
digit = is_in_range 0x30 0x39

abbrev pub hexadecimal : ℕ → Bool
hexadecimal c = digit c || is_in_range 0x61 0x66 c || is_in_range 0x41 0x46 c

abbrev pub CharRef : Lang
CharRef = Word (codes "&#") ⨾ Plus (One digit) ⨾ Word (codes ";") ∣ Word (codes "&#x") ⨾ Plus (One hexadecimal) ⨾ Word (codes ";")

-- [68] EntityRef ::= '&' Name ';'
abbrev pub EntityRef : Lang
EntityRef = Word (codes "&") ⨾ Name ⨾ Word (codes ";")

-- [67] Reference ::= EntityRef | CharRef
abbrev pub Reference : Lang
Reference = EntityRef ∣ CharRef

-- '"' P(") '"' | "'" P(') "'": `"` is 0x22, `'` is 0x27
abbrev pub Quoted : (ℕ → Lang) → Lang
Quoted P = Word (0x22 ∷ []) ⨾ P 0x22 ⨾ Word (0x22 ∷ []) ∣ Word (0x27 ∷ []) ⨾ P 0x27 ⨾ Word (0x27 ∷ [])

-- [10] AttValue ::= '"' ([^<&"] | Reference)* '"' | "'" ([^<&'] | Reference)* "'"; `<` is 0x3C, `&` is 0x26
abbrev pub value_char : ℕ → ℕ → Bool
value_char quote c = char c && not (c == 0x3C) && not (c == 0x26) && not (c == quote)

abbrev pub AttValue : Lang
AttValue = Quoted (λ quote. Star (One (value_char quote) ∣ Reference))

-- [25] Eq ::= S? '=' S?
abbrev pub Eq : Lang
Eq = Opt S ⨾ Word (codes "=") ⨾ Opt S

-- [41] Attribute ::= Name Eq AttValue
abbrev pub Attribute : Lang
Attribute = Name ⨾ Eq ⨾ AttValue

-- [40] STag ::= '<' Name (S Attribute)* S? '>'
abbrev pub STag : Lang
STag = Word (codes "<") ⨾ Name ⨾ Star (S ⨾ Attribute) ⨾ Opt S ⨾ Word (codes ">")

-- [42] ETag ::= '</' Name S? '>'
abbrev pub ETag : Lang
ETag = Word (codes "</") ⨾ Name ⨾ Opt S ⨾ Word (codes ">")

-- [44] EmptyElemTag ::= '<' Name (S Attribute)* S? '/>'
abbrev pub EmptyElemTag : Lang
EmptyElemTag = Word (codes "<") ⨾ Name ⨾ Star (S ⨾ Attribute) ⨾ Opt S ⨾ Word (codes "/>")

-- [15] Comment ::= '<!--' ((Char - '-') | ('-' (Char - '-')))* '-->'; `-` is 0x2D
abbrev pub not_dash : ℕ → Bool
not_dash c = char c && not (c == 0x2D)

abbrev pub Comment : Lang
Comment = Word (codes "<!--") ⨾ Star (One not_dash ∣ Word (codes "-") ⨾ One not_dash) ⨾ Word (codes "-->")

-- Char* - (Char* 'word' Char*)
abbrev pub Without : List ℕ → Lang
Without w = Star (One char) less (Star (One char) ⨾ Word w ⨾ Star (One char))

-- [17] PITarget ::= Name - (('X' | 'x') ('M' | 'm') ('L' | 'l'))
abbrev pub either : ℕ → ℕ → ℕ → Bool
either a b c = c == a || c == b

abbrev pub PITarget : Lang
PITarget = Name less (One (either 0x58 0x78) ⨾ One (either 0x4D 0x6D) ⨾ One (either 0x4C 0x6C))

-- [16] PI ::= '<?' PITarget (S (Char* - (Char* '?>' Char*)))? '?>'
abbrev pub PI : Lang
PI = Word (codes "<?") ⨾ PITarget ⨾ Opt (S ⨾ Without (codes "?>")) ⨾ Word (codes "?>")

-- [19] CDStart ::= '<![CDATA['
abbrev pub CDStart : Lang
CDStart = Word (codes "<![CDATA[")

-- [20] CData ::= (Char* - (Char* ']]>' Char*))
abbrev pub CData : Lang
CData = Without (codes "]]>")

-- [21] CDEnd ::= ']]>'
abbrev pub CDEnd : Lang
CDEnd = Word (codes "]]>")

-- [18] CDSect ::= CDStart CData CDEnd
abbrev pub CDSect : Lang
CDSect = CDStart ⨾ CData ⨾ CDEnd

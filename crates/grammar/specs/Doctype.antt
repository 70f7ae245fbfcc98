-- Productions of XML 1.0 (Fifth Edition), by their numbers: the document type declaration. Assumes nothing.
use Rattle.std.specs.Prelude.{ℕ, zero, suc, Bool, not, ◌&&◌, ◌||◌, List, codes, ◌==◌}
use Rattle.std.specs.Int.{is_in_range}
use Rattle.grammar.specs.Lang.{Lang, Word, One, ◌⨾◌, ◌∣◌, Opt, Star, Plus}
use Rattle.grammar.specs.Xml.{char, S, name_char, Name, Reference, Quoted, AttValue, Comment, PI}

-- S? 'word' S? P
abbrev pub Next : List ℕ → Lang → Lang
Next w P = Opt S ⨾ Word w ⨾ Opt S ⨾ P

-- [7] Nmtoken ::= (NameChar)+
abbrev pub Nmtoken : Lang
Nmtoken = Plus (One name_char)

-- [69] PEReference ::= '%' Name ';'
abbrev pub PEReference : Lang
PEReference = Word (codes "%") ⨾ Name ⨾ Word (codes ";")

-- [9] EntityValue ::= '"' ([^%&"] | PEReference | Reference)* '"' | "'" ([^%&'] | PEReference | Reference)* "'"; `%` is 0x25, `&` is 0x26
abbrev pub entity_char : ℕ → ℕ → Bool
entity_char quote c = char c && not (c == 0x25) && not (c == 0x26) && not (c == quote)

abbrev pub EntityValue : Lang
EntityValue = Quoted (λ quote. Star (One (entity_char quote) ∣ PEReference ∣ Reference))

-- [11] SystemLiteral ::= ('"' [^"]* '"') | ("'" [^']* "'")
abbrev pub SystemLiteral : Lang
SystemLiteral = Quoted (λ quote. Star (One (λ c. char c && not (c == quote))))

-- [13] PubidChar ::= #x20 | #xD | #xA | [a-zA-Z0-9] | [-'()+,./:=?;!*#@$_%]
abbrev pub pubid_char : ℕ → Bool
pubid_char c =
    (c == 0x20) || c == 0xD || c == 0xA || is_in_range 0x61 0x7A c || is_in_range 0x41 0x5A c || is_in_range 0x30 0x39 c
    || is_in_range 0x27 0x29 c || is_in_range 0x2B 0x2F c || c == 0x3A || c == 0x3D || c == 0x3F || c == 0x3B || c == 0x21
    || c == 0x2A || c == 0x23 || c == 0x40 || c == 0x24 || c == 0x5F || c == 0x25

-- [12] PubidLiteral ::= '"' PubidChar* '"' | "'" (PubidChar - "'")* "'"; no PubidChar is a `"`
abbrev pub PubidLiteral : Lang
PubidLiteral = Quoted (λ quote. Star (One (λ c. pubid_char c && not (c == quote))))

-- [75] ExternalID ::= 'SYSTEM' S SystemLiteral | 'PUBLIC' S PubidLiteral S SystemLiteral
abbrev pub ExternalID : Lang
ExternalID = Word (codes "SYSTEM") ⨾ S ⨾ SystemLiteral ∣ Word (codes "PUBLIC") ⨾ S ⨾ PubidLiteral ⨾ S ⨾ SystemLiteral

-- '?' | '*' | '+'
abbrev pub occurrence : ℕ → Bool
occurrence c = c == 0x3F || c == 0x2A || c == 0x2B

-- [49] choice ::= '(' S? cp ( S? '|' S? cp )+ S? ')'
abbrev pub Choice : Lang → Lang
Choice P = Word (codes "(") ⨾ Opt S ⨾ P ⨾ Plus (Next (codes "|") P) ⨾ Opt S ⨾ Word (codes ")")

-- [50] seq ::= '(' S? cp ( S? ',' S? cp )* S? ')'
abbrev pub Sequence : Lang → Lang
Sequence P = Word (codes "(") ⨾ Opt S ⨾ P ⨾ Star (Next (codes ",") P) ⨾ Opt S ⨾ Word (codes ")")

-- [48] cp ::= (Name | choice | seq) ('?' | '*' | '+')?, where parentheses nest no deeper than `depth`
abbrev pub Particle : ℕ → Lang
Particle zero = Name ⨾ Opt (One occurrence)
Particle (suc depth) = (Name ∣ Choice (Particle depth) ∣ Sequence (Particle depth)) ⨾ Opt (One occurrence)

-- [47] children ::= (choice | seq) ('?' | '*' | '+')?
abbrev pub Children : Lang
Children xs = (depth : ℕ) × ((Choice (Particle depth) ∣ Sequence (Particle depth)) ⨾ Opt (One occurrence)) xs

-- [51] Mixed ::= '(' S? '#PCDATA' (S? '|' S? Name)* S? ')*' | '(' S? '#PCDATA' S? ')'
abbrev pub Mixed : Lang
Mixed =
    Word (codes "(") ⨾ Opt S ⨾ Word (codes "#PCDATA") ⨾ Star (Next (codes "|") Name) ⨾ Opt S ⨾ Word (codes ")*")
    ∣ Word (codes "(") ⨾ Opt S ⨾ Word (codes "#PCDATA") ⨾ Opt S ⨾ Word (codes ")")

-- [46] contentspec ::= 'EMPTY' | 'ANY' | Mixed | children
abbrev pub Contentspec : Lang
Contentspec = Word (codes "EMPTY") ∣ Word (codes "ANY") ∣ Mixed ∣ Children

-- [45] elementdecl ::= '<!ELEMENT' S Name S contentspec S? '>'
abbrev pub Elementdecl : Lang
Elementdecl = Word (codes "<!ELEMENT") ⨾ S ⨾ Name ⨾ S ⨾ Contentspec ⨾ Opt S ⨾ Word (codes ">")

-- [55] StringType ::= 'CDATA'
abbrev pub StringType : Lang
StringType = Word (codes "CDATA")

-- [56] TokenizedType ::= 'ID' | 'IDREF' | 'IDREFS' | 'ENTITY' | 'ENTITIES' | 'NMTOKEN' | 'NMTOKENS'
abbrev pub TokenizedType : Lang
TokenizedType =
    Word (codes "ID") ∣ Word (codes "IDREF") ∣ Word (codes "IDREFS") ∣ Word (codes "ENTITY") ∣ Word (codes "ENTITIES")
    ∣ Word (codes "NMTOKEN") ∣ Word (codes "NMTOKENS")

-- [58] NotationType ::= 'NOTATION' S '(' S? Name (S? '|' S? Name)* S? ')'
abbrev pub NotationType : Lang
NotationType = Word (codes "NOTATION") ⨾ S ⨾ Word (codes "(") ⨾ Opt S ⨾ Name ⨾ Star (Next (codes "|") Name) ⨾ Opt S ⨾ Word (codes ")")

-- [59] Enumeration ::= '(' S? Nmtoken (S? '|' S? Nmtoken)* S? ')'
abbrev pub Enumeration : Lang
Enumeration = Word (codes "(") ⨾ Opt S ⨾ Nmtoken ⨾ Star (Next (codes "|") Nmtoken) ⨾ Opt S ⨾ Word (codes ")")

-- [57] EnumeratedType ::= NotationType | Enumeration
abbrev pub EnumeratedType : Lang
EnumeratedType = NotationType ∣ Enumeration

-- [54] AttType ::= StringType | TokenizedType | EnumeratedType
abbrev pub AttType : Lang
AttType = StringType ∣ TokenizedType ∣ EnumeratedType

-- [60] DefaultDecl ::= '#REQUIRED' | '#IMPLIED' | (('#FIXED' S)? AttValue)
abbrev pub DefaultDecl : Lang
DefaultDecl = Word (codes "#REQUIRED") ∣ Word (codes "#IMPLIED") ∣ Opt (Word (codes "#FIXED") ⨾ S) ⨾ AttValue

-- [53] AttDef ::= S Name S AttType S DefaultDecl
abbrev pub AttDef : Lang
AttDef = S ⨾ Name ⨾ S ⨾ AttType ⨾ S ⨾ DefaultDecl

-- [52] AttlistDecl ::= '<!ATTLIST' S Name AttDef* S? '>'
abbrev pub AttlistDecl : Lang
AttlistDecl = Word (codes "<!ATTLIST") ⨾ S ⨾ Name ⨾ Star AttDef ⨾ Opt S ⨾ Word (codes ">")

-- [76] NDataDecl ::= S 'NDATA' S Name
abbrev pub NDataDecl : Lang
NDataDecl = S ⨾ Word (codes "NDATA") ⨾ S ⨾ Name

-- [73] EntityDef ::= EntityValue | (ExternalID NDataDecl?)
abbrev pub EntityDef : Lang
EntityDef = EntityValue ∣ ExternalID ⨾ Opt NDataDecl

-- [71] GEDecl ::= '<!ENTITY' S Name S EntityDef S? '>'
abbrev pub GEDecl : Lang
GEDecl = Word (codes "<!ENTITY") ⨾ S ⨾ Name ⨾ S ⨾ EntityDef ⨾ Opt S ⨾ Word (codes ">")

-- [74] PEDef ::= EntityValue | ExternalID
abbrev pub PEDef : Lang
PEDef = EntityValue ∣ ExternalID

-- [72] PEDecl ::= '<!ENTITY' S '%' S Name S PEDef S? '>'
abbrev pub PEDecl : Lang
PEDecl = Word (codes "<!ENTITY") ⨾ S ⨾ Word (codes "%") ⨾ S ⨾ Name ⨾ S ⨾ PEDef ⨾ Opt S ⨾ Word (codes ">")

-- [70] EntityDecl ::= GEDecl | PEDecl
abbrev pub EntityDecl : Lang
EntityDecl = GEDecl ∣ PEDecl

-- [83] PublicID ::= 'PUBLIC' S PubidLiteral
abbrev pub PublicID : Lang
PublicID = Word (codes "PUBLIC") ⨾ S ⨾ PubidLiteral

-- [82] NotationDecl ::= '<!NOTATION' S Name S (ExternalID | PublicID) S? '>'
abbrev pub NotationDecl : Lang
NotationDecl = Word (codes "<!NOTATION") ⨾ S ⨾ Name ⨾ S ⨾ (ExternalID ∣ PublicID) ⨾ Opt S ⨾ Word (codes ">")

-- [29] markupdecl ::= elementdecl | AttlistDecl | EntityDecl | NotationDecl | PI | Comment
abbrev pub Markupdecl : Lang
Markupdecl = Elementdecl ∣ AttlistDecl ∣ EntityDecl ∣ NotationDecl ∣ PI ∣ Comment

-- [28a] DeclSep ::= PEReference | S
abbrev pub DeclSep : Lang
DeclSep = PEReference ∣ S

-- [28b] intSubset ::= (markupdecl | DeclSep)*
abbrev pub IntSubset : Lang
IntSubset = Star (Markupdecl ∣ DeclSep)

-- [28] doctypedecl ::= '<!DOCTYPE' S Name (S ExternalID)? S? ('[' intSubset ']' S?)? '>'
abbrev pub Doctypedecl : Lang
Doctypedecl =
    Word (codes "<!DOCTYPE") ⨾ S ⨾ Name ⨾ Opt (S ⨾ ExternalID) ⨾ Opt S ⨾ Opt (Word (codes "[") ⨾ IntSubset ⨾ Word (codes "]") ⨾ Opt S)
    ⨾ Word (codes ">")

-- a doctypedecl up to a place between two declarations of its internal subset
abbrev pub Opening : Lang
Opening = Word (codes "<!DOCTYPE") ⨾ S ⨾ Name ⨾ Opt (S ⨾ ExternalID) ⨾ Opt S ⨾ Word (codes "[") ⨾ IntSubset

-- a doctypedecl from such a place on
abbrev pub Closing : Lang
Closing = IntSubset ⨾ Word (codes "]") ⨾ Opt S ⨾ Word (codes ">")

-- a doctypedecl that holds a comment
abbrev pub Commented : Lang
Commented = Opening ⨾ Comment ⨾ Closing

-- Directories and files of line units of version 5 (DWARF 5, 6.2.4 and 6.2.4.1): a list tells the format of its entries,
-- how many there are, and then the entries.
use Rattle.std.specs.Prelude.{ℕ, ◌==◌, ◌||◌, ◌&&◌, nat_lt, if◌then◌else◌, List, [], ◌∷◌, length, Option, Some, None}
use Rattle.symbol_lines.specs.Reading.{◌>>=◌, byte_at, half_at, word_at, bytes_at, uleb_at, text_at, list_at}
use Rattle.symbol_lines.specs.Paths.{Path, InUnit, InStrings, InLineStrings, TextSections, has_text, Entry}

-- a field of each entry: the code of its content, and the form that it has
pub record Format : Type 0 where
  pub content : ℕ
  pub form : ℕ

-- the contents that are read: DW_LNCT_path and DW_LNCT_directory_index
abbrev pub path_content : ℕ
path_content = 1

abbrev pub directory_content : ℕ
directory_content = 2

-- the forms, DW_FORM_data2 and so on
abbrev pub data2 : ℕ
data2 = 0x05

abbrev pub data4 : ℕ
data4 = 0x06

abbrev pub data8 : ℕ
data8 = 0x07

abbrev pub string : ℕ
string = 0x08

abbrev pub block : ℕ
block = 0x09

abbrev pub data1 : ℕ
data1 = 0x0b

abbrev pub strp : ℕ
strp = 0x0e

abbrev pub udata : ℕ
udata = 0x0f

abbrev pub data16 : ℕ
data16 = 0x1e

abbrev pub line_strp : ℕ
line_strp = 0x1f

-- the path in a field of a form, and none where the form is another one or the path's text has no end
abbrev pub path_at : TextSections → ℕ → List ℕ → Option (Path × List ℕ)
path_at s form bs =
    if form == string then (text_at bs >>= λ text. Some (InUnit text.0, text.1))
    else if form == strp then
    (word_at bs >>= λ offset. if has_text s.strings offset.0 then Some (InStrings offset.0, offset.1) else None)
    else if form == line_strp then
    (word_at bs >>= λ offset. if has_text s.line_strings offset.0 then Some (InLineStrings offset.0, offset.1) else None)
    else None

-- the number of a directory in a field of a form, and none where the form is another one
abbrev pub index_at : ℕ → List ℕ → Option (ℕ × List ℕ)
index_at form bs =
    if form == data1 then byte_at bs
    else if form == data2 then half_at bs
    else if form == udata then uleb_at bs
    else None

-- how many bytes a field of a form has, where the form alone says that
abbrev pub size_of : ℕ → Option ℕ
size_of form =
    if form == data1 then Some 1
    else if form == data2 then Some 2
    else if form == data4 || (form == strp || form == line_strp) then Some 4
    else if form == data8 then Some 8
    else if form == data16 then Some 16
    else None

-- the bytes after a field of a form
abbrev pub after_field : ℕ → List ℕ → Option (List ℕ)
after_field form bs =
    if form == string then (text_at bs >>= λ text. Some text.1)
    else if form == udata then (uleb_at bs >>= λ number. Some number.1)
    else if form == block then (uleb_at bs >>= λ len. bytes_at len.0 len.1 >>= λ field. Some field.1)
    else size_of form >>= λ size. bytes_at size bs >>= λ field. Some field.1

-- an entry with what a field tells of it; fields of other contents are passed over
unfoldable pub field_at : TextSections → Format → Entry → List ℕ → Option (Entry × List ℕ)
field_at s format entry bs =
    if format.content == path_content then
    (path_at s format.form bs >>= λ path. Some (record entry { path = Some path.0 }, path.1))
    else if format.content == directory_content then
    (index_at format.form bs >>= λ index. Some (record entry { directory = index.0 }, index.1))
    else after_field format.form bs >>= λ rest. Some (entry, rest)

-- an entry with what its fields tell, one after another: of several with one content the last counts
unfoldable pub fields_at : TextSections → List Format → Entry → List ℕ → Option (Entry × List ℕ)
fields_at s [] entry bs = Some (entry, bs)
fields_at s (format ∷ formats) entry bs = field_at s format entry bs >>= λ next. fields_at s formats next.0 next.1

-- an entry has no path and is in directory 0 where its fields don't tell another
abbrev pub entry_at : TextSections → List Format → List ℕ → Option (Entry × List ℕ)
entry_at s formats bs = fields_at s formats (record { path = None; directory = 0 }) bs

abbrev pub format_at : List ℕ → Option (Format × List ℕ)
format_at bs = uleb_at bs >>= λ content. uleb_at content.1 >>= λ form. Some (record { content = content.0; form = form.0 }, form.1)

-- The entries of a list. There are none without a field.
unfoldable pub entries_at : TextSections → List ℕ → Option (List Entry × List ℕ)
entries_at s bs =
    byte_at bs >>= λ width.
    list_at format_at width.0 width.1 >>= λ formats.
    uleb_at formats.1 >>= λ count.
    if nat_lt 0 count.0 && length formats.0 == 0 then None
    else list_at (entry_at s formats.0) count.0 count.1

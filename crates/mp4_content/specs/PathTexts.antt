-- The text of the path of a box.
use Rattle.std.specs.Prelude.{ℕ, ◌==◌, List, [], ◌∷◌, ◌++◌, codes, decimal, flat_map, None, Some, if◌then◌else◌}
use Rattle.std.specs.declared.option.Option.{Option}
use Rattle.mp4_frame.specs.declared.four_cc.FourCC.{FourCC}
use Rattle.mp4_show.specs.Texts.{code_shown}
use Rattle.mp4_content.specs.declared.path.Part.{Part}

-- the index of a part in brackets, unless it is 0
abbrev pub index_shown : ℕ → List ℕ
index_shown i = if i == 0 then [] else codes "[" ++ (decimal i ++ codes "]")

-- the code, or a hyphen for bytes that have no whole header
abbrev pub name_shown : Option FourCC → List ℕ
name_shown None = codes "-"
name_shown (Some code) = code_shown code.value

abbrev pub part_shown : Part → List ℕ
part_shown p = name_shown p.code ++ index_shown p.index

-- a part after a slash
abbrev pub after_slash : Part → List ℕ
after_slash p = codes "/" ++ part_shown p

abbrev pub inner_shown : List Part → List ℕ
inner_shown ps = flat_map after_slash ps

-- the first part, and each later one after a slash
abbrev pub path_shown : List Part → List ℕ
path_shown [] = []
path_shown (p ∷ ps) = part_shown p ++ inner_shown ps

-- A declared entry, which has a shape.
use Rattle.std.specs.Prelude.{◌≡◌}
use denote.Struct.Record.{Record as Struct}
use denote.Struct.Values.{Values}
use Rattle.mp4_declared.specs.Shape.{Shape, mapped_shape}

-- The fields of an entry: its content, and the entry made from some content. The author shows that these two are
-- inverse, so that an entry is its own normal form.
pub record ExactLayout (A V : Type 0) : Type 0 where
  pub content : V → A
  pub value : A → V
  pub back : (v : V) → value (content v) ≡ v
  pub again : (x : A) → content (value x) ≡ x

-- The layout of a struct whose fields, in their order, are the parts of the content. `struct` of its module describes
-- them, `free` says that it has no ghost fields, and `back` that it is made of its fields.
abbrev pub exact_layout_of : (n : Struct) (free : (x : Values n.parts) → n.Ghost x)
    → ((v : n.D) → n.make (n.as_values v) (free (n.as_values v)) ≡ v) → ExactLayout (Values n.parts) n.D
exact_layout_of n free back = record {
  content = n.as_values;
  value = λ x. n.make x (free x);
  back = back;
  again = λ x. n.beta x (free x);
}

-- an entry, which is read and written as its content
abbrev pub entry_shape : {A V : Type 0} → Shape A → ExactLayout A V → Shape V
entry_shape s l = mapped_shape l.value l.content s

-- Lists of values, by their places.
use Rattle.std.proofs.Common.{◌≡◌, List, [], ◌∷◌, Some, map}
use Rattle.std.specs.Prelude.{slice_get}
use Rattle.config_text.specs.Operand.{Value, form_of}
use Rattle.config_text.specs.declared.operand.Form.{Form}

-- a list is known by its values at its places
pub list_1 : (vs : List Value) (f0 : Form) (a0 : Value) → map form_of vs ≡ f0 ∷ [] → slice_get vs 0 ≡ Some a0 → a0 ∷ [] ≡ vs
list_1 [] f0 a0 forms at0 = cc
list_1 (x0 ∷ []) f0 a0 forms at0 = cc
list_1 (x0 ∷ x1 ∷ vs) f0 a0 forms at0 = cc

pub list_2 : (vs : List Value) (f0 f1 : Form) (a0 a1 : Value) → map form_of vs ≡ f0 ∷ f1 ∷ [] → slice_get vs 0 ≡ Some a0 → slice_get vs 1 ≡ Some a1 → a0 ∷ a1 ∷ [] ≡ vs
list_2 [] f0 f1 a0 a1 forms at0 at1 = cc
list_2 (x0 ∷ []) f0 f1 a0 a1 forms at0 at1 = cc
list_2 (x0 ∷ x1 ∷ []) f0 f1 a0 a1 forms at0 at1 = cc
list_2 (x0 ∷ x1 ∷ x2 ∷ vs) f0 f1 a0 a1 forms at0 at1 = cc

pub list_3 : (vs : List Value) (f0 f1 f2 : Form) (a0 a1 a2 : Value) → map form_of vs ≡ f0 ∷ f1 ∷ f2 ∷ [] → slice_get vs 0 ≡ Some a0 → slice_get vs 1 ≡ Some a1 → slice_get vs 2 ≡ Some a2 → a0 ∷ a1 ∷ a2 ∷ [] ≡ vs
list_3 [] f0 f1 f2 a0 a1 a2 forms at0 at1 at2 = cc
list_3 (x0 ∷ []) f0 f1 f2 a0 a1 a2 forms at0 at1 at2 = cc
list_3 (x0 ∷ x1 ∷ []) f0 f1 f2 a0 a1 a2 forms at0 at1 at2 = cc
list_3 (x0 ∷ x1 ∷ x2 ∷ []) f0 f1 f2 a0 a1 a2 forms at0 at1 at2 = cc
list_3 (x0 ∷ x1 ∷ x2 ∷ x3 ∷ vs) f0 f1 f2 a0 a1 a2 forms at0 at1 at2 = cc

pub list_4 : (vs : List Value) (f0 f1 f2 f3 : Form) (a0 a1 a2 a3 : Value) → map form_of vs ≡ f0 ∷ f1 ∷ f2 ∷ f3 ∷ [] → slice_get vs 0 ≡ Some a0 → slice_get vs 1 ≡ Some a1 → slice_get vs 2 ≡ Some a2 → slice_get vs 3 ≡ Some a3 → a0 ∷ a1 ∷ a2 ∷ a3 ∷ [] ≡ vs
list_4 [] f0 f1 f2 f3 a0 a1 a2 a3 forms at0 at1 at2 at3 = cc
list_4 (x0 ∷ []) f0 f1 f2 f3 a0 a1 a2 a3 forms at0 at1 at2 at3 = cc
list_4 (x0 ∷ x1 ∷ []) f0 f1 f2 f3 a0 a1 a2 a3 forms at0 at1 at2 at3 = cc
list_4 (x0 ∷ x1 ∷ x2 ∷ []) f0 f1 f2 f3 a0 a1 a2 a3 forms at0 at1 at2 at3 = cc
list_4 (x0 ∷ x1 ∷ x2 ∷ x3 ∷ []) f0 f1 f2 f3 a0 a1 a2 a3 forms at0 at1 at2 at3 = cc
list_4 (x0 ∷ x1 ∷ x2 ∷ x3 ∷ x4 ∷ vs) f0 f1 f2 f3 a0 a1 a2 a3 forms at0 at1 at2 at3 = cc

pub list_7 : (vs : List Value) (f0 f1 f2 f3 f4 f5 f6 : Form) (a0 a1 a2 a3 a4 a5 a6 : Value) → map form_of vs ≡ f0 ∷ f1 ∷ f2 ∷ f3 ∷ f4 ∷ f5 ∷ f6 ∷ [] → slice_get vs 0 ≡ Some a0 → slice_get vs 1 ≡ Some a1 → slice_get vs 2 ≡ Some a2 → slice_get vs 3 ≡ Some a3 → slice_get vs 4 ≡ Some a4 → slice_get vs 5 ≡ Some a5 → slice_get vs 6 ≡ Some a6 → a0 ∷ a1 ∷ a2 ∷ a3 ∷ a4 ∷ a5 ∷ a6 ∷ [] ≡ vs
list_7 [] f0 f1 f2 f3 f4 f5 f6 a0 a1 a2 a3 a4 a5 a6 forms at0 at1 at2 at3 at4 at5 at6 = cc
list_7 (x0 ∷ []) f0 f1 f2 f3 f4 f5 f6 a0 a1 a2 a3 a4 a5 a6 forms at0 at1 at2 at3 at4 at5 at6 = cc
list_7 (x0 ∷ x1 ∷ []) f0 f1 f2 f3 f4 f5 f6 a0 a1 a2 a3 a4 a5 a6 forms at0 at1 at2 at3 at4 at5 at6 = cc
list_7 (x0 ∷ x1 ∷ x2 ∷ []) f0 f1 f2 f3 f4 f5 f6 a0 a1 a2 a3 a4 a5 a6 forms at0 at1 at2 at3 at4 at5 at6 = cc
list_7 (x0 ∷ x1 ∷ x2 ∷ x3 ∷ []) f0 f1 f2 f3 f4 f5 f6 a0 a1 a2 a3 a4 a5 a6 forms at0 at1 at2 at3 at4 at5 at6 = cc
list_7 (x0 ∷ x1 ∷ x2 ∷ x3 ∷ x4 ∷ []) f0 f1 f2 f3 f4 f5 f6 a0 a1 a2 a3 a4 a5 a6 forms at0 at1 at2 at3 at4 at5 at6 = cc
list_7 (x0 ∷ x1 ∷ x2 ∷ x3 ∷ x4 ∷ x5 ∷ []) f0 f1 f2 f3 f4 f5 f6 a0 a1 a2 a3 a4 a5 a6 forms at0 at1 at2 at3 at4 at5 at6 = cc
list_7 (x0 ∷ x1 ∷ x2 ∷ x3 ∷ x4 ∷ x5 ∷ x6 ∷ []) f0 f1 f2 f3 f4 f5 f6 a0 a1 a2 a3 a4 a5 a6 forms at0 at1 at2 at3 at4 at5 at6 = cc
list_7 (x0 ∷ x1 ∷ x2 ∷ x3 ∷ x4 ∷ x5 ∷ x6 ∷ x7 ∷ vs) f0 f1 f2 f3 f4 f5 f6 a0 a1 a2 a3 a4 a5 a6 forms at0 at1 at2 at3 at4 at5 at6 = cc

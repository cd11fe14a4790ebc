-- The values of operands at their places.
use Rattle.std.proofs.Common.{◌≡◌, ℕ, zero, suc, List, [], ◌∷◌, Some, map, refl}
use Rattle.std.specs.Prelude.{slice_get, slice_index_or}
use Rattle.std.specs.Borrow.{Bor}
use Rattle.config_lists.specs.declared.group_state.AnaState.{AnaState}
use Rattle.config_lists.specs.declared.namespace.Visibility.{Visibility}
use Rattle.config_lists.specs.declared.port.Family.{Family}
use Rattle.config_lists.specs.declared.subsystem.Access.{Access}
use Rattle.config_text.specs.Operand.{form_of, value_of, values}
use Rattle.config_text.specs.declared.operand.Form.{Form}
use Rattle.config_text.specs.declared.operand.Form.TheVariants as form
use Rattle.config_text.specs.declared.operand.Operand.{Operand}
use Rattle.config_text.specs.declared.operand.Operand.TheVariants.{Number, Name, Text, Uuid, Family as FamilyOf, Access as AccessOf, Visibility as VisibilityOf, State}

pub record IsAt (os : List Operand) (at : ℕ) (f : Form) (o : Operand) : Type 0 where
  pub value_is : slice_get (values os) at ≡ Some (value_of o)
  pub form_is : form_of (value_of o) ≡ f

-- the operand at a place where there is one of that form
pub operand_at : (os : List Operand) (at : ℕ) (d o : Operand) (f : Form) → slice_get (map form_of (values os)) at ≡ Some f → slice_index_or os at d ≡ o → IsAt os at f o
operand_at [] at d o f has is = cc
operand_at (x ∷ os) zero d o f has is = record { value_is = cc; form_is = cc }
operand_at (x ∷ os) (suc at) d o f has is =
    let rest = operand_at os at d o f has is in
    record { value_is = rest.value_is; form_is = rest.form_is }

only_number : (o : Operand) → form_of (value_of o) ≡ form.Number → ((x : ℕ) → o ≡ Number x → ⊥) → ⊥
only_number (Number x) is other = other x refl
only_number (Name x) is other = cc
only_number (Text x) is other = cc
only_number (Uuid x) is other = cc
only_number (FamilyOf x) is other = cc
only_number (AccessOf x) is other = cc
only_number (VisibilityOf x) is other = cc
only_number (State x) is other = cc

pub no_other_number : (os : List Operand) (at : ℕ) (d : Operand) → slice_get (map form_of (values os)) at ≡ Some form.Number → ((x : ℕ) → slice_index_or os at d ≡ Number x → ⊥) → ⊥
no_other_number os at d has other = only_number (slice_index_or os at d) (operand_at os at d (slice_index_or os at d) form.Number has refl).form_is other

only_name : (o : Operand) → form_of (value_of o) ≡ form.Name → ((x : Bor (List ℕ)) → o ≡ Name x → ⊥) → ⊥
only_name (Number x) is other = cc
only_name (Name x) is other = other x refl
only_name (Text x) is other = cc
only_name (Uuid x) is other = cc
only_name (FamilyOf x) is other = cc
only_name (AccessOf x) is other = cc
only_name (VisibilityOf x) is other = cc
only_name (State x) is other = cc

pub no_other_name : (os : List Operand) (at : ℕ) (d : Operand) → slice_get (map form_of (values os)) at ≡ Some form.Name → ((x : Bor (List ℕ)) → slice_index_or os at d ≡ Name x → ⊥) → ⊥
no_other_name os at d has other = only_name (slice_index_or os at d) (operand_at os at d (slice_index_or os at d) form.Name has refl).form_is other

only_text : (o : Operand) → form_of (value_of o) ≡ form.Text → ((x : Bor (List ℕ)) → o ≡ Text x → ⊥) → ⊥
only_text (Number x) is other = cc
only_text (Name x) is other = cc
only_text (Text x) is other = other x refl
only_text (Uuid x) is other = cc
only_text (FamilyOf x) is other = cc
only_text (AccessOf x) is other = cc
only_text (VisibilityOf x) is other = cc
only_text (State x) is other = cc

pub no_other_text : (os : List Operand) (at : ℕ) (d : Operand) → slice_get (map form_of (values os)) at ≡ Some form.Text → ((x : Bor (List ℕ)) → slice_index_or os at d ≡ Text x → ⊥) → ⊥
no_other_text os at d has other = only_text (slice_index_or os at d) (operand_at os at d (slice_index_or os at d) form.Text has refl).form_is other

only_uuid : (o : Operand) → form_of (value_of o) ≡ form.Uuid → ((x : List ℕ) → o ≡ Uuid x → ⊥) → ⊥
only_uuid (Number x) is other = cc
only_uuid (Name x) is other = cc
only_uuid (Text x) is other = cc
only_uuid (Uuid x) is other = other x refl
only_uuid (FamilyOf x) is other = cc
only_uuid (AccessOf x) is other = cc
only_uuid (VisibilityOf x) is other = cc
only_uuid (State x) is other = cc

pub no_other_uuid : (os : List Operand) (at : ℕ) (d : Operand) → slice_get (map form_of (values os)) at ≡ Some form.Uuid → ((x : List ℕ) → slice_index_or os at d ≡ Uuid x → ⊥) → ⊥
no_other_uuid os at d has other = only_uuid (slice_index_or os at d) (operand_at os at d (slice_index_or os at d) form.Uuid has refl).form_is other

only_family : (o : Operand) → form_of (value_of o) ≡ form.Family → ((x : Family) → o ≡ FamilyOf x → ⊥) → ⊥
only_family (Number x) is other = cc
only_family (Name x) is other = cc
only_family (Text x) is other = cc
only_family (Uuid x) is other = cc
only_family (FamilyOf x) is other = other x refl
only_family (AccessOf x) is other = cc
only_family (VisibilityOf x) is other = cc
only_family (State x) is other = cc

pub no_other_family : (os : List Operand) (at : ℕ) (d : Operand) → slice_get (map form_of (values os)) at ≡ Some form.Family → ((x : Family) → slice_index_or os at d ≡ FamilyOf x → ⊥) → ⊥
no_other_family os at d has other = only_family (slice_index_or os at d) (operand_at os at d (slice_index_or os at d) form.Family has refl).form_is other

only_access : (o : Operand) → form_of (value_of o) ≡ form.Access → ((x : Access) → o ≡ AccessOf x → ⊥) → ⊥
only_access (Number x) is other = cc
only_access (Name x) is other = cc
only_access (Text x) is other = cc
only_access (Uuid x) is other = cc
only_access (FamilyOf x) is other = cc
only_access (AccessOf x) is other = other x refl
only_access (VisibilityOf x) is other = cc
only_access (State x) is other = cc

pub no_other_access : (os : List Operand) (at : ℕ) (d : Operand) → slice_get (map form_of (values os)) at ≡ Some form.Access → ((x : Access) → slice_index_or os at d ≡ AccessOf x → ⊥) → ⊥
no_other_access os at d has other = only_access (slice_index_or os at d) (operand_at os at d (slice_index_or os at d) form.Access has refl).form_is other

only_visibility : (o : Operand) → form_of (value_of o) ≡ form.Visibility → ((x : Visibility) → o ≡ VisibilityOf x → ⊥) → ⊥
only_visibility (Number x) is other = cc
only_visibility (Name x) is other = cc
only_visibility (Text x) is other = cc
only_visibility (Uuid x) is other = cc
only_visibility (FamilyOf x) is other = cc
only_visibility (AccessOf x) is other = cc
only_visibility (VisibilityOf x) is other = other x refl
only_visibility (State x) is other = cc

pub no_other_visibility : (os : List Operand) (at : ℕ) (d : Operand) → slice_get (map form_of (values os)) at ≡ Some form.Visibility → ((x : Visibility) → slice_index_or os at d ≡ VisibilityOf x → ⊥) → ⊥
no_other_visibility os at d has other = only_visibility (slice_index_or os at d) (operand_at os at d (slice_index_or os at d) form.Visibility has refl).form_is other

only_state : (o : Operand) → form_of (value_of o) ≡ form.State → ((x : AnaState) → o ≡ State x → ⊥) → ⊥
only_state (Number x) is other = cc
only_state (Name x) is other = cc
only_state (Text x) is other = cc
only_state (Uuid x) is other = cc
only_state (FamilyOf x) is other = cc
only_state (AccessOf x) is other = cc
only_state (VisibilityOf x) is other = cc
only_state (State x) is other = other x refl

pub no_other_state : (os : List Operand) (at : ℕ) (d : Operand) → slice_get (map form_of (values os)) at ≡ Some form.State → ((x : AnaState) → slice_index_or os at d ≡ State x → ⊥) → ⊥
no_other_state os at d has other = only_state (slice_index_or os at d) (operand_at os at d (slice_index_or os at d) form.State has refl).form_is other

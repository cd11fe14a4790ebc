-- The Asymmetric Namespace Access log page (Base 2.0, section 5.16.1.13).
use Rattle.std.specs.Prelude.{◌≡◌, ℕ, Bool, nat_le, ◌&&◌, true, List, length, drop, Option, Some, None, if◌then◌else◌}
use Rattle.nvt_fields.specs.Field.{field_at}
use Rattle.host_pages.specs.declared.bad_page.BadPage.{BadPage}
use Rattle.host_pages.specs.declared.bad_page.BadPage.TheVariants.{TooShort}
use Rattle.host_pages.specs.Groups.{groups_in, holds_groups}

-- the count of the page as a whole: a change of any group moves it
abbrev pub change_of : List ℕ → ℕ
change_of page = field_at 8 0 page

-- by `groups_are_the_split` as many groups stand behind the header, each as long as it says
abbrev pub group_count : List ℕ → ℕ
group_count page = field_at 2 8 page

-- the groups stand behind the 16 bytes of the header
abbrev pub groups_of : List ℕ → List (List ℕ)
groups_of page = groups_in (group_count page) (drop 16 page)

-- the header is there, and behind it the groups that it counts
abbrev pub is_ana_log : List ℕ → Bool
is_ana_log page = nat_le 16 (length page) && holds_groups (group_count page) (drop 16 page)

abbrev pub fault_of : List ℕ → Option BadPage
fault_of bytes = if is_ana_log bytes then None else Some TooShort

abbrev pub IsAnaLog : List ℕ → Type 0
IsAnaLog page = is_ana_log page ≡ true

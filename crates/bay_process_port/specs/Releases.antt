-- The releases of switches that a process receives (IEC 61850-7-4, CILO: EnaOpn and EnaCls).
use Rattle.std.specs.Prelude.{ℕ, ◌+◌, ◌==◌, Bool, ◌&&◌, false, List, [], ◌∷◌, ◌++◌, codes, length, map, replicate, slice_get, Option, None, Some, option_map, if◌then◌else◌}
use Rattle.std.specs.Bool.{beq}
use Rattle.std.specs.List.{range_with_len}
use Rattle.bay_nodes.specs.declared.switch.Switch.{Switch}
use Rattle.bay_device.specs.Device.{State}
use Rattle.bay_device.specs.LookUps.{enabled_of}
use Rattle.bay_process.specs.Releases.{digit_text}

-- whether a switch may be opened, and closed
abbrev pub ReleaseData : Type 0
ReleaseData = Bool × Bool

-- it is the one that was sent last
abbrev pub is_same : Option ReleaseData → ReleaseData → Bool
is_same None release = false
is_same (Some last) release = beq last.0 release.0 && beq last.1 release.1

-- what is sent for the switch at an index: its release, if it is not the one that was sent last
abbrev pub release_at : ℕ → Option ReleaseData → Option ReleaseData → List (ℕ × ReleaseData)
release_at k last None = []
release_at k last (Some release) = if is_same last release then [] else (k, release) ∷ []

-- what is sent for the switches from index k on, by what was sent for each last
abbrev pub releases_from : State → ℕ → List (Option ReleaseData) → List (ℕ × ReleaseData)
releases_from s k [] = []
releases_from s k (last ∷ sent) = release_at k last (enabled_of s k) ++ releases_from s (k + 1) sent

-- what is sent to a process, if it receives releases
abbrev pub new_releases : State → Option (List (Option ReleaseData)) → List (ℕ × ReleaseData)
new_releases s None = []
new_releases s (Some sent) = releases_from s 0 sent

-- what was sent last after that: the release of each switch
abbrev pub sent_releases_after : State → Option (List (Option ReleaseData))
    → Option (List (Option ReleaseData))
sent_releases_after s = option_map (λ sent. map (enabled_of s) (range_with_len 0 (length sent)))

-- nothing was sent for any of 32 switches
unfoldable pub no_releases_sent : List (Option ReleaseData)
no_releases_sent = replicate 32 None

-- ---- as text

-- the line of a release
abbrev pub release_line : List ℕ → ReleaseData → List ℕ
release_line id release =
    id ++ codes "=" ++ digit_text release.0 ++ digit_text release.1 ++ codes "\n"

-- the line of the release of this switch; nothing without a switch
abbrev pub release_part : ReleaseData → Option Switch → List ℕ
release_part release None = []
release_part release (Some switch) = release_line switch.id release

-- a line for each release that is sent
abbrev pub releases_text : State → List (ℕ × ReleaseData) → List ℕ
releases_text s [] = []
releases_text s (change ∷ more) =
    release_part change.1 (slice_get s.switches change.0) ++ releases_text s more

-- ---- what a process knows of it

-- the last release that was sent for the switch at an index
abbrev pub last_release_sent : ℕ → Option ReleaseData → List (ℕ × ReleaseData) → Option ReleaseData
last_release_sent k last [] = last
last_release_sent k last (change ∷ more) =
    last_release_sent k (if change.0 == k then Some change.1 else last) more

-- Numbers of one width, times, and reserved bytes.
use Rattle.std.proofs.Common.{◌≡◌, ℕ, ◌≤◌, ◌^◌, Bool, true, false, [], Ok, arith, refl}
use Rattle.std.specs.Prelude.{◌==◌, if◌then◌else◌}
use Rattle.mp4_declared.specs.Shape.{time_width}
use Rattle.mp4_declared.specs.declared.context.Context.{Context}
use Rattle.mp4_shown.specs.Numbers.{NumberName}
use Rattle.mp4_read_back.specs.ComesBack.{ComesBack, Part}
use Rattle.mp4_read_back.specs.NumberParts.{number_part}
use Rattle.mp4_read_back.specs.NumberLaws.{number_comes}

pub u32_comes : ComesBack (number_part (λ _. 4) (λ _. 32) 32)
u32_comes = number_comes (λ _. 4) (λ _. 32) 32 (λ _. refl) (λ _. omega arith) (omega arith)

pub u8_comes : ComesBack (number_part (λ _. 1) (λ _. 8) 8)
u8_comes = number_comes (λ _. 1) (λ _. 8) 8 (λ _. refl) (λ _. omega arith) (omega arith)

pub u16_comes : ComesBack (number_part (λ _. 2) (λ _. 16) 16)
u16_comes = number_comes (λ _. 2) (λ _. 16) 16 (λ _. refl) (λ _. omega arith) (omega arith)

pub u24_comes : ComesBack (number_part (λ _. 3) (λ _. 24) 24)
u24_comes = number_comes (λ _. 3) (λ _. 24) 24 (λ _. refl) (λ _. omega arith) (omega arith)

pub u64_comes : ComesBack (number_part (λ _. 8) (λ _. 64) 64)
u64_comes = number_comes (λ _. 8) (λ _. 64) 64 (λ _. refl) (λ _. omega arith) (omega arith)

-- a time has 32 bits in version 0, and 64 in others
abbrev pub time_bits : Context → ℕ
time_bits c = if c.version == 0 then 32 else 64

abbrev pub time_part : Part NumberName ℕ
time_part = number_part (λ c. time_width c.version) time_bits 64

time_is : (b : Bool) → 256 ^ (if b then 4 else 8) ≡ 2 ^ (if b then 32 else 64)
time_is true = refl
time_is false = refl

time_within : (b : Bool) → (if b then 32 else 64) ≤ 64
time_within true = omega arith
time_within false = omega arith

pub time_comes : ComesBack time_part
time_comes = number_comes (λ c. time_width c.version) time_bits 64 (λ c. time_is (c.version == 0))
    (λ c. time_within (c.version == 0)) (omega arith)

-- reserved bytes have no member
abbrev pub zeros_part : Part (Unit {0}) (Unit {0})
zeros_part = record {
  shown = λ n v. [];
  taken = λ n c ms. Ok (tt, ms);
  Fits = λ c v. Unit {0};
  names = λ n. [];
  is_good = λ n. true;
  before = λ n v ms. ms;
  deep = 0;
}

pub zeros_come : ComesBack zeros_part
zeros_come = record {
  printed = λ n c v ms good fits. refl;
  back = λ n c v ms good fits free. refl;
  apart = λ n v ms name other none. none;
  numbers = λ n c v ms good fits have. have;
  shallow = λ n v ms d deep rest. rest;
}

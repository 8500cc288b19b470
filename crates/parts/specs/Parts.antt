-- The numbers of a part, each with its sentence of 01, or of a request.
use Rattle.std.specs.Prelude.{◌≡◌, Bool, true, false, ℕ, ◌+◌, ◌%◌, ◌^◌, ◌≤◌, ◌<◌}
use Rattle.parts.specs.declared.Part.{Part}

abbrev pub mspm0 : Part
mspm0 = record {
  -- "One sector is 1,024 bytes."
  sector_size = 1024;
  -- 0x20 Program: "Address or data size not a multiple of 8: 0A."
  word_size = 8;
  -- "MAIN flash starts at 0x00000000, 1,024 to 65,536 bytes, a multiple of 1,024."
  most_main = 65536;
  -- "Settings flash starts at 0x41C00000 and has 1,024 bytes."
  settings_start = 0x41C00000;
  settings_size = 1024;
  -- T-05: "Add 3,456 bytes at 0x20000160 as a third region"
  window_start = 0x20000160;
  window_size = 3456;
  -- 0x26 Verify: "size under 1,024: 0B"
  least_verify = 1024;
  -- 0x52 Rate: "Rates for 1..9"
  last_rate = 9;
  -- 0x19 Info: "version (4)"
  long_version = false;
}

-- T-10: "Our larger shelf uses the part of source document 000."
abbrev pub am13e230x : Part
am13e230x = record {
  -- "Sectors are 2,048 bytes"
  sector_size = 2048;
  -- "Program wants multiples of 16", "The word of T-02 and T-06 is 16 bytes here"
  word_size = 16;
  -- "MAIN is 2,048 bytes to 512 KiB, a multiple of 2,048."
  most_main = 524288;
  -- "settings are one such sector at 0x60100800"
  settings_start = 0x60100800;
  settings_size = 2048;
  -- "there is no window of T-05": one of 0 bytes, which holds no range of a byte or more
  window_start = 0x20000160;
  window_size = 0;
  -- "Verify takes 2,048 to 524,288 bytes"
  least_verify = 2048;
  -- "rate id 0x10 means 4000000"
  last_rate = 0x10;
  -- "the version has 8 bytes at a multiple of 8"
  long_version = true;
}

-- 0x19 Info: "version (4)"; T-10: "the version has 8 bytes"
abbrev pub version_size : Bool → ℕ
version_size false = 4
version_size true = 8

-- what the theorems use of a part: a version's bytes stand in one sector, and MAIN's size has four bytes
pub record Sound (part : Part) : Type 0 where
  -- 0x19 Info: "the four MAIN bytes at the pointer if it is a multiple of 4"; T-10: "8 bytes at a multiple of 8"
  pub version : (pointer : ℕ) → pointer % version_size part.long_version ≡ 0
      → pointer % part.sector_size + version_size part.long_version ≤ part.sector_size
  pub main : part.most_main < 256 ^ 4

-- The worked cases in a single table: what the definitions give beside what documents 01 and 02 say. Definitions only.
use Rattle.std.specs.Prelude.{List, [], ◌∷◌, ◌++◌, true, false}
use Rattle.tables.specs.Set.{blank}
use Rattle.tables.specs.SetT.{sigmas_t, cubic_t, set_t}
use Rattle.cases.specs.Case.{Case, root_case, log_case, nearest_case, value_case, extreme_case, count_case, envelope_case, statistic_case, correction_case}
use Rattle.cases.specs.Raw.{radius_case, radii_case, tap_case, level_case, whole_case, raw_case}
use Rattle.cases.specs.Feeds.{start_case, fed_case, column_case}
use Rattle.cases.specs.Scenes.{tiles_case, scene_case, home_case}
use Rattle.cases.specs.MapM.{put, level_m, bytes_m, minimum_m, small_m, map_case, sized_case, thresholds_of, thresholds_m, checks_case}

-- the worked cases in document 01's order; after P12 the other cases of the correction, then those of document 02's requests
unfoldable pub table : List Case
table =
    -- P1 root 2.25 is 1.5.
    root_case 0x40100000 0x3fc00000
    -- P2 root 2^-148 is 2^-74.
    ∷ root_case 0x00000002 0x1a800000
    -- P3 log2 8 is 3; log2 2^-149 is -149.
    ∷ log_case 0x41000000 0x40400000
    ∷ log_case 0x00000001 0xc3150000
    -- P4 the cubic (1,2,3,4) at 2 is 26.
    ∷ value_case (0x3f800000 ∷ 0x40000000 ∷ 0x40400000 ∷ 0x40800000 ∷ []) 0x40000000 0x41d00000
    -- P5 band extreme of (0,-1,4,0) on 1 to 3: maximum 4, minimum 3.
    ∷ extreme_case (0 ∷ 0xbf800000 ∷ 0x40800000 ∷ 0 ∷ []) 0x3f800000 0x40400000 true 0x40800000
    ∷ extreme_case (0 ∷ 0xbf800000 ∷ 0x40800000 ∷ 0 ∷ []) 0x3f800000 0x40400000 false 0x40400000
    -- P6 of (1,0,-3,0) on 0.5 to 2: maximum 2, minimum -2.
    ∷ extreme_case (0x3f800000 ∷ 0 ∷ 0xc0400000 ∷ 0 ∷ []) 0x3f000000 0x40000000 true 0x40000000
    ∷ extreme_case (0x3f800000 ∷ 0 ∷ 0xc0400000 ∷ 0 ∷ []) 0x3f000000 0x40000000 false 0xc0000000
    -- P7 octave count 9: 0; 10: 1; 64: 1; 65: 2; 1,025: 6.
    ∷ count_case 9 0
    ∷ count_case 10 1
    ∷ count_case 64 1
    ∷ count_case 65 2
    ∷ count_case 1025 6
    -- P8 under T the samples (-1,4,0,0) have the envelope min -1, max 4, sigmas 0 and 2.
    ∷ envelope_case cubic_t sigmas_t (0xbf800000 ∷ 0x40800000 ∷ 0 ∷ 0 ∷ []) (0xbf800000 ∷ 0x40800000 ∷ 0 ∷ 0x40000000 ∷ [])
    -- P9 map M: one spot, with these 48 bytes.
    ∷ map_case level_m bytes_m
    -- P10 with (2,4) of level 0 NaN: none.
    ∷ map_case (put 2 4 0x7fc00000 level_m) []
    -- P11 with (2,2) NaN: as P9.
    ∷ map_case (put 2 2 0x7fc00000 level_m) bytes_m
    -- P12 correcting P9's spot, of samples (-1,4,0,0) and sigma 2, as a minimum under T is 7, and its cause (No. 5) 1.
    ∷ correction_case set_t (0xbf800000 ∷ 0x40800000 ∷ 0 ∷ 0 ∷ []) 0x40000000 false (7 ∷ 1 ∷ [])
    -- As a maximum it is moved half an octave up, to 2.828427.
    ∷ correction_case set_t (0xbf800000 ∷ 0x40800000 ∷ 0 ∷ 0 ∷ []) 0x40000000 true (0 ∷ 0x403504f3 ∷ [])
    -- The samples (1,0.64,0.36,0.2214533) have a profile that is a line: as a minimum, that spot goes to the model's place, 0.8300096, past the cap.
    ∷ correction_case set_t (0x3f800000 ∷ 0x3f23d70a ∷ 0x3eb851ec ∷ 0x3e62c4a7 ∷ []) 0x40000000 false (0 ∷ 0x3f547b82 ∷ [])
    -- A set of zeros is refused with 4.
    ∷ correction_case blank (0xbf800000 ∷ 0x40800000 ∷ 0 ∷ 0 ∷ []) 0x40000000 true (4 ∷ 0 ∷ [])
    -- No. 1 map M is not refused.
    ∷ checks_case 0 thresholds_m set_t (0 ∷ [])
    -- With a NaN for one of its thresholds, quiet, signalling or negative, it is refused with 8.
    ∷ checks_case 0 (thresholds_of 0x7fc00000 0x3f800000 0x41200000 0x3ff38cb4 0x4084cbdf) set_t (8 ∷ [])
    ∷ checks_case 0 (thresholds_of 0x3f800000 0x7f800001 0x41200000 0x3ff38cb4 0x4084cbdf) set_t (8 ∷ [])
    ∷ checks_case 0 (thresholds_of 0x3f800000 0x3f800000 0xffc00000 0x3ff38cb4 0x4084cbdf) set_t (8 ∷ [])
    ∷ checks_case 0 (thresholds_of 0x3f800000 0x3f800000 0x41200000 0xff800001 0x4084cbdf) set_t (8 ∷ [])
    ∷ checks_case 0 (thresholds_of 0x3f800000 0x3f800000 0x41200000 0x3ff38cb4 0x7fffffff) set_t (8 ∷ [])
    -- 8 comes after 3 and before 4.
    ∷ checks_case 6 (thresholds_of 0x3f800000 0x3f800000 0x7fc00000 0x3ff38cb4 0x4084cbdf) set_t (3 ∷ [])
    ∷ checks_case 0 (thresholds_of 0x3f800000 0x3f800000 0x7fc00000 0x3ff38cb4 0x4084cbdf) blank (8 ∷ [])
    ∷ checks_case 0 thresholds_m blank (4 ∷ [])
    -- Infinities, and a window from high to low, are not refused.
    ∷ checks_case 0 (thresholds_of 0x7f800000 0xff800000 0x7f800000 0x7f800000 0xff800000) set_t (0 ∷ [])
    -- No. 2 the whole number nearest to 0, -0, the f32 just below 0.5, 0.5, 2.5, 3.5, 4.5, the f32 just below 4,094.5, and 4,094.5; a half goes to the larger.
    ∷ nearest_case 0x00000000 0
    ∷ nearest_case 0x80000000 0
    ∷ nearest_case 0x3effffff 0
    ∷ nearest_case 0x3f000000 1
    ∷ nearest_case 0x40200000 3
    ∷ nearest_case 0x40600000 4
    ∷ nearest_case 0x40900000 5
    ∷ nearest_case 0x457fe7ff 4094
    ∷ nearest_case 0x457fe800 4095
    -- Map M's spot, sized: its 48 bytes, sigma 2.828427, home row 4 and col 5 (x is 4.5), accepted.
    ∷ sized_case bytes_m (bytes_m ++ (0xf3 ∷ 0x04 ∷ 0x35 ∷ 0x40 ∷ 0x04 ∷ 0x00 ∷ 0x05 ∷ 0x00 ∷ 0x01 ∷ 0x00 ∷ 0x00 ∷ 0x00 ∷ []))
    -- Its 21 pixels stay those around (4,4): with (4,7) of level 0 NaN it is as P9, with (4,2) there is none.
    ∷ map_case (put 4 7 0x7fc00000 level_m) bytes_m
    ∷ map_case (put 4 2 0x7fc00000 level_m) []
    -- No. 3 the radius for a sigma of NaN, -1, 0, the f32 just below epsilon, epsilon, 0.1, the f32 1/3 and the next, 5, the next, 6 and infinity.
    ∷ radius_case 0x7fc00000 0
    ∷ radius_case 0xbf800000 0
    ∷ radius_case 0x00000000 0
    ∷ radius_case 0x33ffffff 0
    ∷ radius_case 0x34000000 1
    ∷ radius_case 0x3dcccccd 1
    ∷ radius_case 0x3eaaaaab 1
    ∷ radius_case 0x3eaaaaac 2
    ∷ radius_case 0x40a00000 15
    ∷ radius_case 0x40a00001 16
    ∷ radius_case 0x40c00000 16
    ∷ radius_case 0x7f800000 16
    -- Set T's radii in octave 0, and in octave 1, whose first level is left the floor of 0.1.
    ∷ radii_case 0 (3 ∷ 6 ∷ 9 ∷ 12 ∷ [])
    ∷ radii_case 1 (1 ∷ 4 ∷ 8 ∷ 12 ∷ [])
    -- Tap 1 of its level 1 in octave 0, by our exp.
    ∷ tap_case 0 1 1 0x3e38c060
    -- A map of one pixel, -0, stays -0: a sum starts with the centre, not with +0.
    ∷ level_case 1 1 0 (0x80000000 ∷ []) (0x80000000 ∷ [])
    -- Level 0 of the map with columns (1, 2), (3, 5) and (8, 13).
    ∷ level_case 2 3 0 (0x3f800000 ∷ 0x40000000 ∷ 0x40400000 ∷ 0x40a00000 ∷ 0x41000000 ∷ 0x41500000 ∷ [])
    (0x4004c128 ∷ 0x402d1eb3 ∷ 0x408fccf3 ∷ 0x40b53bdf ∷ 0x40f69c76 ∷ 0x4119f3ac ∷ [])
    -- A lost pixel at the start of a line of six: with a radius of 3 the last two are finite, whether it is NaN or infinite, row or column.
    ∷ whole_case 1 6 0 (0x7fc00000 ∷ 0 ∷ 0 ∷ 0 ∷ 0 ∷ 0 ∷ []) (0 ∷ 0 ∷ 0 ∷ 0 ∷ 1 ∷ 1 ∷ [])
    ∷ whole_case 6 1 0 (0xff800000 ∷ 0 ∷ 0 ∷ 0 ∷ 0 ∷ 0 ∷ []) (0 ∷ 0 ∷ 0 ∷ 0 ∷ 1 ∷ 1 ∷ [])
    -- The checks of levels: 1, 2, 3, 4, 6, each before the next where both hold; buffers longer than the map are taken.
    ∷ raw_case 0 0 4097 0 6 blank (1 ∷ [])
    ∷ raw_case 5 0 2 3 6 blank (2 ∷ [])
    ∷ raw_case 6 0 2 3 6 blank (3 ∷ [])
    ∷ raw_case 6 0 2 3 5 blank (4 ∷ [])
    ∷ raw_case 6 5 2 3 5 set_t (6 ∷ [])
    ∷ raw_case 6 6 2 3 5 set_t (0 ∷ [])
    ∷ raw_case 6 7 2 3 5 set_t (0 ∷ [])
    -- No. 5 the statistic under T of four samples of 1; with the first -1, NaN, 0 or infinite its cause is 1, and with the largest float it is a number.
    ∷ statistic_case sigmas_t (0x3f800000 ∷ 0x3f800000 ∷ 0x3f800000 ∷ 0x3f800000 ∷ []) (0 ∷ 0x3ba957fc ∷ [])
    ∷ statistic_case sigmas_t (0xbf800000 ∷ 0x3f800000 ∷ 0x3f800000 ∷ 0x3f800000 ∷ []) (1 ∷ [])
    ∷ statistic_case sigmas_t (0x7fc00000 ∷ 0x3f800000 ∷ 0x3f800000 ∷ 0x3f800000 ∷ []) (1 ∷ [])
    ∷ statistic_case sigmas_t (0x00000000 ∷ 0x3f800000 ∷ 0x3f800000 ∷ 0x3f800000 ∷ []) (1 ∷ [])
    ∷ statistic_case sigmas_t (0x7f800000 ∷ 0x3f800000 ∷ 0x3f800000 ∷ 0x3f800000 ∷ []) (1 ∷ [])
    ∷ statistic_case sigmas_t (0x7f7fffff ∷ 0x3f800000 ∷ 0x3f800000 ∷ 0x3f800000 ∷ []) (0 ∷ 0x3d1573ff ∷ [])
    -- With the first the least float above 0 the cause is 2, a quotient that overflows; so to 2^-128, and with the next float it is 3, a line that falls.
    ∷ statistic_case sigmas_t (0x00000001 ∷ 0x3f800000 ∷ 0x3f800000 ∷ 0x3f800000 ∷ []) (2 ∷ [])
    ∷ statistic_case sigmas_t (0x00200000 ∷ 0x3f800000 ∷ 0x3f800000 ∷ 0x3f800000 ∷ []) (2 ∷ [])
    ∷ statistic_case sigmas_t (0x00200001 ∷ 0x3f800000 ∷ 0x3f800000 ∷ 0x3f800000 ∷ []) (3 ∷ [])
    -- With the last 14.271602 the line still rises, with the next float no more; from there to the largest float the cause is 3, and infinite it is 1.
    ∷ statistic_case sigmas_t (0x3f800000 ∷ 0x3f800000 ∷ 0x3f800000 ∷ 0x4164587b ∷ []) (0 ∷ 0x3e346e21 ∷ [])
    ∷ statistic_case sigmas_t (0x3f800000 ∷ 0x3f800000 ∷ 0x3f800000 ∷ 0x4164587c ∷ []) (3 ∷ [])
    ∷ statistic_case sigmas_t (0x3f800000 ∷ 0x3f800000 ∷ 0x3f800000 ∷ 0x7f7fffff ∷ []) (3 ∷ [])
    ∷ statistic_case sigmas_t (0x3f800000 ∷ 0x3f800000 ∷ 0x3f800000 ∷ 0x7f800000 ∷ []) (1 ∷ [])
    -- The correction of a maximum of samples (-0.25,4,0,0), whose curvature is T's epsilon exactly: cause 1, at sigma 16 too, where its step would lead beyond T.
    ∷ correction_case set_t (0xbe800000 ∷ 0x40800000 ∷ 0 ∷ 0 ∷ []) 0x40000000 true (7 ∷ 1 ∷ [])
    ∷ correction_case set_t (0xbe800000 ∷ 0x40800000 ∷ 0 ∷ 0 ∷ []) 0x41800000 true (7 ∷ 1 ∷ [])
    -- With the first sample a float lower it is curved enough: a size at sigma 2, and at sigma 16 cause 2, as from the third float above 8 on.
    ∷ correction_case set_t (0xbe800001 ∷ 0x40800000 ∷ 0 ∷ 0 ∷ []) 0x40000000 true (0 ∷ 0x407fffff ∷ [])
    ∷ correction_case set_t (0xbe800001 ∷ 0x40800000 ∷ 0 ∷ 0 ∷ []) 0x41800000 true (7 ∷ 2 ∷ [])
    ∷ correction_case set_t (0xbe800001 ∷ 0x40800000 ∷ 0 ∷ 0 ∷ []) 0x41000002 true (0 ∷ 0x417fffff ∷ [])
    ∷ correction_case set_t (0xbe800001 ∷ 0x40800000 ∷ 0 ∷ 0 ∷ []) 0x41000003 true (7 ∷ 2 ∷ [])
    -- A sigma of 0 has no place: cause 1.
    ∷ correction_case set_t (0xbf800000 ∷ 0x40800000 ∷ 0 ∷ 0 ∷ []) 0x00000000 true (7 ∷ 1 ∷ [])
    -- Map M's spot as a minimum, and with a sigma of 0.25, sized: no size, accepted 0, and the cause in the first byte after it.
    ∷ sized_case minimum_m (minimum_m ++ (0x00 ∷ 0x00 ∷ 0x00 ∷ 0x00 ∷ 0x04 ∷ 0x00 ∷ 0x05 ∷ 0x00 ∷ 0x00 ∷ 0x01 ∷ 0x00 ∷ 0x00 ∷ []))
    ∷ sized_case small_m (small_m ++ (0x00 ∷ 0x00 ∷ 0x00 ∷ 0x00 ∷ 0x04 ∷ 0x00 ∷ 0x05 ∷ 0x00 ∷ 0x00 ∷ 0x02 ∷ 0x00 ∷ 0x00 ∷ []))
    -- No. 6 start takes map M with a ring of 45 floats a level; its checks are 1, 3, 8, 4, 6, each before the next where both hold.
    ∷ start_case 9 10 0 thresholds_m set_t 45 (0 ∷ [])
    ∷ start_case 4097 10 6 thresholds_m set_t 45 (1 ∷ [])
    ∷ start_case 9 10 6 (thresholds_of 0x7fc00000 0x3f800000 0x41200000 0x3ff38cb4 0x4084cbdf) set_t 45 (3 ∷ [])
    ∷ start_case 9 10 0 (thresholds_of 0x7fc00000 0x3f800000 0x41200000 0x3ff38cb4 0x4084cbdf) blank 45 (8 ∷ [])
    ∷ start_case 9 10 0 thresholds_m blank 44 (4 ∷ [])
    ∷ start_case 9 10 0 thresholds_m set_t 44 (6 ∷ [])
    -- Map M by columns: six list nothing, the seventh its spot, and so all ten; with an output of 47 bytes the seventh is not taken, nor any after it.
    ∷ fed_case 48 6 (6 ∷ [])
    ∷ fed_case 48 7 (bytes_m ++ (7 ∷ []))
    ∷ fed_case 48 10 (bytes_m ++ (10 ∷ []))
    ∷ fed_case 47 10 (6 ∷ [])
    -- 9 once all columns have come, whatever else is wrong; then 2, also with a short ring; then 6.
    ∷ column_case 10 10 8 44 (0 ∷ 9 ∷ [])
    ∷ column_case 10 9 8 44 (0 ∷ 2 ∷ [])
    ∷ column_case 10 9 9 44 (0 ∷ 6 ∷ [])
    ∷ column_case 10 9 9 45 (0 ∷ [])
    -- A state that start did not make, with more than 4,096 cols, has none to come.
    ∷ column_case 4097 0 9 45 (0 ∷ 9 ∷ [])
    -- No. 7 tiles along a side, and the last one's length: none past 4,096 pixels unless pixels past it remain, and then at least 9 long.
    ∷ tiles_case 0 (1 ∷ 0 ∷ [])
    ∷ tiles_case 9 (1 ∷ 9 ∷ [])
    ∷ tiles_case 4096 (1 ∷ 4096 ∷ [])
    ∷ tiles_case 4097 (2 ∷ 9 ∷ [])
    ∷ tiles_case 8184 (2 ∷ 4096 ∷ [])
    ∷ tiles_case 8185 (3 ∷ 9 ∷ [])
    ∷ tiles_case 8193 (3 ∷ 17 ∷ [])
    ∷ tiles_case 16384 (5 ∷ 32 ∷ [])
    -- A scene's checks are 10, 2, 3, 8, 4, 6, each before the next where both hold; 1 is none of them.
    ∷ scene_case 16385 10 90 0 thresholds_m set_t 90 (10 ∷ [])
    ∷ scene_case 9 16385 90 0 thresholds_m set_t 90 (10 ∷ [])
    ∷ scene_case 9 10 89 6 thresholds_m set_t 90 (2 ∷ [])
    ∷ scene_case 9 10 90 6 (thresholds_of 0x7fc00000 0x3f800000 0x41200000 0x3ff38cb4 0x4084cbdf) set_t 90 (3 ∷ [])
    ∷ scene_case 9 10 90 0 (thresholds_of 0x7fc00000 0x3f800000 0x41200000 0x3ff38cb4 0x4084cbdf) blank 90 (8 ∷ [])
    ∷ scene_case 9 10 90 0 thresholds_m blank 89 (4 ∷ [])
    ∷ scene_case 9 10 90 0 thresholds_m set_t 89 (6 ∷ [])
    ∷ scene_case 9 4097 36873 0 thresholds_m set_t 36863 (6 ∷ [])
    ∷ scene_case 9 4097 36873 0 thresholds_m set_t 36864 (0 ∷ [])
    -- A spot at col 4 of the second tile displaced by 0.49999 is at home at the tile's col 4, which is the scene's 4,092; of the untiled scene it would be 4,093.
    ∷ home_case 4 0x3efffeb0 4
    ∷ home_case 4092 0x3efffeb0 4093
    ∷ []
